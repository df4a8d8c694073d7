-- What is needed of a log and what refuses it, record by record.
use Rattle.std.proofs.Common.{◌⊎◌, Result, Ok, Err, MatchResult, cond, is_ok, take, inl, inr, one-add, ◌≡◌, ℕ, ◌<◌, ◌≤◌, Bool, true, false, nat_lt, List, [], ◌∷◌, ◌++◌, map, Option, Some, None, refl, sym, ap, ◌∙◌, arith}
use Rattle.std.specs.List.{prefix_len, take_while}
use Rattle.std.proofs.lemmas.Bool.Decides.{nat_tests}
use Rattle.cluster_tree.specs.Causes.{first_of}
use Rattle.wal_records.specs.declared.why.Why.{Why}
use Rattle.wal_records.specs.Log.{Log, ended, with_first}
use Rattle.wal_records.specs.Reading.{LogRecord}
use Rattle.wal_base.specs.declared.lsn.Lsn.{Lsn}
use Rattle.block_refs.specs.Outcomes.{record_parts}
use Rattle.block_refs.specs.Parts.{PartsView}
use Rattle.block_refs.specs.declared.fault.PartsFault.{PartsFault}
use Rattle.touched_blocks.specs.Touched.{names_in, names_of}
use Rattle.touched_blocks.specs.declared.fault.TouchFault.{TouchFault}
use Rattle.touched_blocks.specs.declared.fault.TouchFault.TheVariants as touch_fault
use Rattle.touched_blocks.specs.declared.named.Named.{Named}
use Rattle.log_walk.specs.declared.fault.LogWalkFault.{LogWalkFault}
use Rattle.log_walk.specs.declared.fault.LogWalkFault.TheVariants as fault
use Rattle.log_walk.specs.Faults.{IsMemory, parts_cause, touch_cause}
use Rattle.log_walk.specs.First.{at_lsn}
use Rattle.log_walk.specs.Needed.{end_refusal, ends_early, named_by, needed, read_refusal, record_refusal}

pub below_yes : (a b : ℕ) → a < b → nat_lt a b ≡ true
below_yes a b h = grind (arith, nat_tests)

pub below_no : (a b : ℕ) → b ≤ a → nat_lt a b ≡ false
below_no a b h = grind (arith, nat_tests)

-- of a log without a record
pub ended_early : (end place : ℕ) (why : Why) → place < end → read_refusal end (ended place why) ≡ Some (fault.LogEnds (at_lsn place) why)
unfolding read_refusal needed first_of
ended_early end place why low = rw (below_yes place end low) refl

pub ended_late : (end place : ℕ) (why : Why) → end ≤ place → read_refusal end (ended place why) ≡ None
unfolding read_refusal needed first_of
ended_late end place why high = rw (below_no place end high) refl

pub ended_none : (end place : ℕ) (why : Why) → needed end (ended place why) ≡ []
unfolding needed
ended_none end place why = refl

-- of one whose first record starts at the end or past it
pub past_unrefused : (end : ℕ) (r : LogRecord) (log : Log) → end ≤ r.start → read_refusal end (with_first r log) ≡ None
unfolding read_refusal needed first_of
past_unrefused end r log high = rw (below_no r.start end high) refl

pub past_none : (end : ℕ) (r : LogRecord) (log : Log) → end ≤ r.start → needed end (with_first r log) ≡ []
unfolding needed
past_none end r log high = rw (below_no r.start end high) refl

-- those that pass a test from the front on, where the first one does
kept_first : {X : Type 0} (test : X → Bool) (x : X) (xs : List X) → test x ≡ true → take_while test (x ∷ xs) ≡ x ∷ take_while test xs
kept_first test x xs is = rw is (ap (λ n. take n (x ∷ xs)) (one-add (prefix_len test xs)))

-- of one whose first record is needed
pub needed_first : (end : ℕ) (r : LogRecord) (log : Log) → r.start < end → needed end (with_first r log) ≡ r ∷ needed end log
unfolding needed
needed_first end r log low = kept_first (λ (q : LogRecord). nat_lt q.start end) r log.records (below_yes r.start end low)

early_first : (end : ℕ) (r : LogRecord) (log : Log) → r.start < end → ends_early end (with_first r log) ≡ ends_early end log
early_first end r log low = rw (below_yes r.start end low) refl

-- the first refusal of a list
first_none : {E : Type 0} (o : Option E) (points : List (Option E)) → o ≡ None → first_of (o ∷ points) ≡ first_of points
unfolding first_of
first_none o points is = rw is refl

first_some : {E : Type 0} (o : Option E) (points : List (Option E)) (e : E) → o ≡ Some e → first_of (o ∷ points) ≡ Some e
unfolding first_of
first_some o points e is = rw is refl

refusal_first : (end : ℕ) (r : LogRecord) (log : Log) → r.start < end
    → read_refusal end (with_first r log) ≡ first_of (record_refusal end r ∷ (map (record_refusal end) (needed end log) ++ ends_early end log ∷ []))
unfolding read_refusal
refusal_first end r log low = rw (needed_first end r log low, early_first end r log low) refl

pub passed_refusal : (end : ℕ) (r : LogRecord) (log : Log) → r.start < end → record_refusal end r ≡ None → read_refusal end (with_first r log) ≡ read_refusal end log
unfolding read_refusal
passed_refusal end r log low is = refusal_first end r log low ∙ first_none (record_refusal end r) _ is

pub refused_first : (end : ℕ) (r : LogRecord) (log : Log) (e : LogWalkFault) → r.start < end → record_refusal end r ≡ Some e → read_refusal end (with_first r log) ≡ Some e
refused_first end r log e low is = refusal_first end r log low ∙ first_some (record_refusal end r) _ e is

pub named_first : (end : ℕ) (r : LogRecord) (log : Log) → r.start < end → named_by (needed end (with_first r log)) ≡ names_in r (record_parts r) ++ named_by (needed end log)
named_first end r log low = ap named_by (needed_first end r log low)

-- What refuses a record.

pub parts_refused : (end : ℕ) (r : LogRecord) (e : PartsFault) → record_parts r ≡ Err e → record_refusal end r ≡ Some (parts_cause e)
unfolding record_refusal first_of
parts_refused end r e is = rw is refl

special_refused : (end : ℕ) (r : LogRecord) (parts : PartsView) (e : TouchFault) → record_parts r ≡ Ok parts → names_of r parts ≡ Err e → record_refusal end r ≡ Some (touch_cause e)
unfolding record_refusal first_of
special_refused end r parts e is unknown = rw (is, unknown) refl

known : (end : ℕ) (r : LogRecord) (parts : PartsView) (names : List Named) → record_parts r ≡ Ok parts → names_of r parts ≡ Ok names → record_refusal end r ≡ first_of (end_refusal end r ∷ [])
unfolding record_refusal first_of
known end r parts names is named = rw (is, named) refl

-- the names of a record weren't added
pub names_refused : (end : ℕ) (r : LogRecord) (parts : PartsView) (named : Result (List Named) TouchFault) (e : TouchFault) → record_parts r ≡ Ok parts → names_of r parts ≡ named
    → MatchResult named (λ _. e ≡ touch_fault.OutOfMemory) (λ f. e ≡ f) → IsMemory (touch_cause e) ⊎ (record_refusal end r ≡ Some (touch_cause e))
names_refused end r parts (Ok names) e is named told = inl (ap touch_cause told)
names_refused end r parts (Err f) e is named told = inr (special_refused end r parts f is named ∙ ap (λ (x : TouchFault). Some (touch_cause x)) (sym told))

-- they were, and it ends past the end, or not
end_in : (end : ℕ) (r : LogRecord) (past : Bool) → nat_lt end r.end ≡ past → first_of (end_refusal end r ∷ []) ≡ cond past (Some (fault.EndNotRecord (at_lsn end) (at_lsn r.end))) None
unfolding first_of
end_in end r true is = rw is refl
end_in end r false is = rw is refl

pub past_refused : (end last : Lsn) (r : LogRecord) (parts : PartsView) (named : Result (List Named) TouchFault) → record_parts r ≡ Ok parts → names_of r parts ≡ named → is_ok named ≡ true → last.0 ≡ r.end → end.0 < last.0
    → record_refusal end.0 r ≡ Some (fault.EndNotRecord end last)
past_refused end last r parts (Ok names) is named ok last_is low =
    known end.0 r parts names is named ∙ end_in end.0 r true (below_yes end.0 r.end (omega (arith, last_is, low))) ∙ ap (λ (n : ℕ). Some (fault.EndNotRecord end (at_lsn n))) (sym last_is)
past_refused end last r parts (Err e) is named ok last_is low = absurd cc

pub unrefused : (end last : Lsn) (r : LogRecord) (parts : PartsView) (named : Result (List Named) TouchFault) → record_parts r ≡ Ok parts → names_of r parts ≡ named → is_ok named ≡ true → last.0 ≡ r.end → last.0 ≤ end.0
    → record_refusal end.0 r ≡ None
unrefused end last r parts (Ok names) is named ok last_is low =
    known end.0 r parts names is named ∙ end_in end.0 r false (below_no end.0 r.end (omega (arith, last_is, low)))
unrefused end last r parts (Err e) is named ok last_is low = absurd cc
