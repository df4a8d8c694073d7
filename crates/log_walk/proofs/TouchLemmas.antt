-- What a log touches, step by step.
use Rattle.std.proofs.Common.{Result, Ok, Err, ◌≡◌, ℕ, zero, suc, ◌-◌, ◌^◌, ◌<◌, ◌≤◌, ◌⊎◌, ◌||◌, Bool, true, false, cond, nat_lt, nat_le, List, [], ◌∷◌, ◌++◌, Option, Some, None, refl, sym, ap, subst, ◌∙◌, arith, inl, inr, append_assoc}
use Rattle.std.specs.List.{list_any}
use Rattle.std.proofs.lemmas.List.Folds.{list_any-append}
use Rattle.std.proofs.lemmas.Bool.Decides.{nat_tests}
use Rattle.cluster_tree.specs.Contents.{Contents}
use Rattle.wal_base.specs.Segment.{bytes_of}
use Rattle.wal_base.specs.declared.lsn.Lsn.{Lsn}
use Rattle.wal_base.specs.declared.seg_size.SegSize.{SegSize}
use Rattle.wal_pages.specs.declared.log_path.LogPath.{LogPath}
use Rattle.block_refs.specs.Outcomes.{record_parts}
use Rattle.block_refs.specs.declared.names.RelName.{RelName}
use Rattle.touched_blocks.specs.Named.{covers}
use Rattle.touched_blocks.specs.Set.{Adds, TouchedView, has_in}
use Rattle.touched_blocks.specs.Touched.{names_in, touches}
use Rattle.touched_blocks.proofs.SetLemmas.{adds_none, adds_then}
use Rattle.wal_records.specs.declared.why.Why.{Why}
use Rattle.wal_records.specs.declared.why.Why.TheVariants as why
use Rattle.wal_records.specs.declared.why.Stop.TheVariants.{Ends, Dropped}
use Rattle.wal_records.specs.declared.cursor.Step.{Step}
use Rattle.wal_records.specs.declared.cursor.Step.TheVariants as steps
use Rattle.wal_records.specs.Cursor.{CursorView, GoesOn, Moves, Steps, to_come}
use Rattle.wal_records.specs.Further.{Pages, pages_of}
use Rattle.wal_records.specs.Log.{Log, ended, log_from, log_in, log_step, with_first}
use Rattle.wal_records.specs.Place.{place_at}
use Rattle.wal_records.specs.Reading.{LogRecord, Reading, Spelled, Stopped, reading}
use Rattle.wal_records.proofs.LogLemmas.{Ahead, ahead_reading}
use Rattle.wal_records.proofs.PlaceLemmas.{place_at_up}
use Rattle.log_walk.specs.declared.fault.LogWalkFault.{LogWalkFault}
use Rattle.log_walk.specs.declared.fault.LogWalkFault.TheVariants as fault
use Rattle.log_walk.specs.Faults.{IsFree, IsMemory}
use Rattle.log_walk.specs.First.{at_lsn}
use Rattle.log_walk.specs.Needed.{named_by, needed, nothing_touched, read_refusal, record_refusal}
use Rattle.log_walk.specs.declared.touch.Turn.{Turn}
use Rattle.log_walk.specs.declared.touch.Turn.TheVariants.{Done, More}
use Rattle.log_walk.specs.Steps.{IsFurther, IsTouched, MovesOn, Touches, TouchesNext, at_end, turn_behind}
use Rattle.log_walk.proofs.StepLemmas.{current_is}
use Rattle.log_walk.proofs.NeededLemmas.{ended_early, ended_late, ended_none, named_first, passed_refusal, past_none, past_unrefused, refused_first}

-- a log has nothing below a position
abbrev Past : ℕ → List LogRecord → ℕ → Type 0
Past end [] place = end ≤ place
Past end (r ∷ rest) place = end ≤ r.start

abbrev IsPast : ℕ → Log → Type 0
IsPast end log = Past end log.records log.place

past_cond : (end : ℕ) (b : Bool) (one other : Log) → IsPast end one → IsPast end other → IsPast end (cond b one other)
past_cond end true one other a b = a
past_cond end false one other a b = b

past_step : (go : Option ℕ → ℕ → Log) (size end place : ℕ) (before : Option ℕ) (found : Reading) → end ≤ place → Ahead size place found
    → ((b : Option ℕ) (p : ℕ) → end ≤ p → IsPast end (go b p)) → IsPast end (log_step go size before place found)
past_step go size end place before (Spelled r) low ahead rest = omega (arith, low, ahead.0)
past_step go size end place before (Stopped (Dropped page)) low ahead rest = rest before (place_at size page) (omega (arith, low, ahead))
past_step go size end place before (Stopped (Ends why)) low ahead rest = low

past_in : (pages : Pages) (size : ℕ) → 0 < size → (end n place : ℕ) (before : Option ℕ) → end ≤ place → IsPast end (log_in pages size n before place)
unfolding log_in
past_in pages size some end zero place before low = low
past_in pages size some end (suc n) place before low =
    past_cond end (nat_le (2 ^ 64) place) (ended place why.NoSegment) (log_step (log_in pages size n) size before place (reading pages size before place)) low
    (past_step (log_in pages size n) size end place before (reading pages size before place) low (ahead_reading pages size place before some)
    (λ b p up. past_in pages size some end n p b up))

-- the log from a place on has nothing below it
past_from : (pages : Pages) (size end place : ℕ) (before : Option ℕ) → 0 < size → end ≤ place → IsPast end (log_from pages size before place)
unfolding log_from
past_from pages size end place before some low = past_in pages size some end (2 ^ 64 - place) place before low

abbrev log_as : List LogRecord → ℕ → Why → Log
log_as records place reason = record { records = records; place = place; why = reason }

-- so nothing of it is needed or refused
unneeded : (end : ℕ) (records : List LogRecord) (place : ℕ) (reason : Why) → Past end records place
    → (read_refusal end (log_as records place reason) ≡ None) × (needed end (log_as records place reason) ≡ [])
unneeded end [] place reason past = (ended_late end place reason past, ended_none end place reason)
unneeded end (r ∷ rest) place reason past = (past_unrefused end r (log_as rest place reason) past, past_none end r (log_as rest place reason) past)

rest_unneeded : (pages : Pages) (size end place : ℕ) (before : Option ℕ) → 0 < size → end ≤ place
    → (read_refusal end (log_from pages size before place) ≡ None) × (needed end (log_from pages size before place) ≡ [])
rest_unneeded pages size end place before some low =
    let log : Log = log_from pages size before place in
    unneeded end log.records log.place log.why (past_from pages size end place before some low)

-- Steps over a log.

-- no step
pub touched_none : (end : ℕ) (log : Log) (t : TouchedView) → Touches end log log t t
touched_none end log t = record { refusal = refl; names = []; joins = refl; adds = adds_none t }

-- one step more
pub touched_more : (end : ℕ) (first old new : Log) (t u v : TouchedView) → Touches end first old t u → Touches end old new u v → Touches end first new t v
touched_more end first old new t u v one two = record {
  refusal = one.refusal ∙ two.refusal;
  names = one.names ++ two.names;
  joins = one.joins ∙ ap (λ more. one.names ++ more) two.joins ∙ sym (append_assoc one.names two.names (named_by (needed end new)));
  adds = adds_then one.names two.names t u v one.adds two.adds;
}

-- the last one
pub touched_last : (end : ℕ) (first old : Log) (t u v : TouchedView) → Touches end first old t u → IsTouched end old u v → IsTouched end first t v
touched_last end first old t u v one two = record {
  refusal = one.refusal ∙ two.refusal;
  adds = subst (λ names. Adds names t v) (sym one.joins) (adds_then one.names (named_by (needed end old)) t u v one.adds two.adds);
}

pub touched_refused : (end : ℕ) (first old : Log) (t u : TouchedView) (e : LogWalkFault) → Touches end first old t u → IsFree e ⊎ (read_refusal end old ≡ Some e) → IsFree e ⊎ (read_refusal end first ≡ Some e)
touched_refused end first old t u e one (inl free) = inl free
touched_refused end first old t u e one (inr is) = inr (one.refusal ∙ is)

-- a log that needs nothing
unneeded_touched : (end : ℕ) (log : Log) (t : TouchedView) → read_refusal end log ≡ None → needed end log ≡ [] → IsTouched end log t t
unneeded_touched end log t unrefused none = record {
  refusal = unrefused;
  adds = subst (λ (records : List LogRecord). Adds (named_by records) t t) (sym none) (adds_none t);
}

-- at the end of the log
pub end_touched : (end place : ℕ) (reason : Why) (log : Log) (t : TouchedView) → log ≡ ended place reason → end ≤ place → IsTouched end log t t
end_touched end place reason log t is high =
    subst (λ (l : Log). IsTouched end l t t) (sym is) (unneeded_touched end (ended place reason) t (ended_late end place reason high) (ended_none end place reason))

pub end_refused : (end place : ℕ) (reason : Why) (log : Log) → log ≡ ended place reason → place < end → read_refusal end log ≡ Some (fault.LogEnds (at_lsn place) reason)
end_refused end place reason log is low = ap (read_refusal end) is ∙ ended_early end place reason low

-- at a record that starts at the end or past it
pub past_touched : (end : ℕ) (r : LogRecord) (log rest : Log) (t : TouchedView) → log ≡ with_first r rest → end ≤ r.start → IsTouched end log t t
past_touched end r log rest t is high =
    subst (λ (l : Log). IsTouched end l t t) (sym is) (unneeded_touched end (with_first r rest) t (past_unrefused end r rest high) (past_none end r rest high))

-- at one that is needed, and refused
pub needed_refused : (end : ℕ) (r : LogRecord) (log rest : Log) (e : LogWalkFault) → log ≡ with_first r rest → r.start < end → IsMemory e ⊎ (record_refusal end r ≡ Some e)
    → IsFree e ⊎ (read_refusal end log ≡ Some e)
needed_refused end r log rest e is low (inl memory) = inl (inr memory)
needed_refused end r log rest e is low (inr refused) = inr (ap (read_refusal end) is ∙ refused_first end r rest e low refused)

-- at one that is needed, and added
pub needed_touched : (end : ℕ) (r : LogRecord) (log rest : Log) (t u : TouchedView) → log ≡ with_first r rest → r.start < end → record_refusal end r ≡ None → Adds (names_in r (record_parts r)) t u
    → Touches end log rest t u
needed_touched end r log rest t u is low unrefused adds = record {
  refusal = ap (read_refusal end) is ∙ passed_refusal end r rest low unrefused;
  names = names_in r (record_parts r);
  joins = ap (λ (l : Log). named_by (needed end l)) is ∙ named_first end r rest low;
  adds = adds;
}

-- behind a record that ends where the reading does nothing more is needed
pub rest_touched : (pages : Pages) (size end place : ℕ) (before : Option ℕ) (at : ℕ) (rest : Log) (t : TouchedView) → 0 < size → rest ≡ log_from pages size before place → place ≡ place_at size at → end ≤ at → IsTouched end rest t t
rest_touched pages size end place before at rest t some is place_is high =
    let low : end ≤ place = omega (arith, place_is, place_at_up size at, high) in
    let none = rest_unneeded pages size end place before some low in
    subst (λ (l : Log). IsTouched end l t t) (sym is) (unneeded_touched end (log_from pages size before place) t none.0 none.1)

-- One step of the reading.

lies_below : (a b : ℕ) → nat_lt a b ≡ true → a < b
lies_below a b is = grind (arith, nat_tests)

lies_at : (a b : ℕ) → nat_lt a b ≡ false → b ≤ a
lies_at a b is = grind (arith, nat_tests)

end_in : (end place : ℕ) (reason : Why) (old new : Log) (t : TouchedView) (early : Bool) (result : Result Turn LogWalkFault) → nat_lt place end ≡ early → old ≡ ended place reason
    → result ≡ cond early (Err (fault.LogEnds (at_lsn place) reason)) (Ok Done) → TouchesNext end old new t t result
end_in end place reason old new t true result early_is is told =
    subst (TouchesNext end old new t t) (sym told) (inr (end_refused end place reason old is (lies_below place end early_is)))
end_in end place reason old new t false result early_is is told =
    subst (TouchesNext end old new t t) (sym told) (end_touched end place reason old t is (lies_at place end early_is))

-- at the end of the log
pub end_next : (end place : ℕ) (reason : Why) (old new : Log) (t : TouchedView) (result : Result Turn LogWalkFault) → old ≡ ended place reason → result ≡ at_end end place reason
    → TouchesNext end old new t t result
end_next end place reason old new t result is told = end_in end place reason old new t (nat_lt place end) result refl is told

-- the log to come, behind a record that was read
pub record_step : (old new : CursorView) (step : Step) (contents : Contents) (r : LogRecord) → step ≡ steps.Record → new.current ≡ Some r → Steps old new step contents
    → to_come old contents ≡ with_first r (to_come new contents)
record_step old new step contents r is current moved =
    let P : Step → Type 0 = λ k. Steps old new k contents in
    current_is new.current (λ x. to_come old contents ≡ with_first x (to_come new contents)) r current (subst P is moved)

-- and at its end
pub end_step : (old new : CursorView) (step : Step) (contents : Contents) (place : Lsn) (reason : Why) → step ≡ steps.End place reason → Steps old new step contents → to_come old contents ≡ ended place.0 reason
end_step old new step contents place reason is moved = let P : Step → Type 0 = λ k. Steps old new k contents in subst P is moved

-- where the cursor is then
pub record_moves : (old new : CursorView) (step : Step) (r : LogRecord) → step ≡ steps.Record → new.current ≡ Some r → Moves old new step → GoesOn old new r
record_moves old new step r is current moved =
    let P : Step → Type 0 = λ k. Moves old new k in
    current_is new.current (GoesOn old new) r current (subst P is moved)

pub moves_on : (turn : Turn) (old new : CursorView) (r : LogRecord) → GoesOn old new r → MovesOn old new turn
moves_on More old new r goes = record { opened = goes.opened; up = goes.up; within = goes.within }
moves_on Done old new r goes = tt

size_some : (size : SegSize) → 0 < bytes_of size
size_some size = omega (arith, size.is_size.least)

added_in : (old new : CursorView) (contents : Contents) (end : ℕ) (r : LogRecord) (t u : TouchedView) (more : Bool) (turn : Turn) → nat_lt r.end end ≡ more → new.place ≡ place_at (bytes_of new.log.size) r.end
    → Touches end (to_come old contents) (to_come new contents) t u → turn ≡ cond more More Done → TouchesNext end (to_come old contents) (to_come new contents) t u (Ok turn)
added_in old new contents end r t u true turn more_is place touches told =
    subst (λ (k : Turn). TouchesNext end (to_come old contents) (to_come new contents) t u (Ok k)) (sym told) touches
added_in old new contents end r t u false turn more_is place touches told =
    let rest : IsTouched end (to_come new contents) u u =
    rest_touched (pages_of new.log contents) (bytes_of new.log.size) end new.place new.before r.end (to_come new contents) u (size_some new.log.size) refl place (lies_at r.end end more_is) in
    subst (λ (k : Turn). TouchesNext end (to_come old contents) (to_come new contents) t u (Ok k)) (sym told)
    (touched_last end (to_come old contents) (to_come new contents) t u u touches rest)

-- behind a record that is needed and was added
pub added_next : (old new : CursorView) (contents : Contents) (end : ℕ) (r : LogRecord) (t u : TouchedView) (turn : Turn) → new.log ≡ old.log → to_come old contents ≡ with_first r (to_come new contents) → GoesOn old new r
    → r.start < end → record_refusal end r ≡ None → Adds (names_in r (record_parts r)) t u → turn ≡ turn_behind end r → TouchesNext end (to_come old contents) (to_come new contents) t u (Ok turn)
added_next old new contents end r t u turn log is goes low unrefused adds told =
    let place : new.place ≡ place_at (bytes_of new.log.size) r.end = subst (λ (k : LogPath). new.place ≡ place_at (bytes_of k.size) r.end) (sym log) goes.place in
    added_in old new contents end r t u (nat_lt r.end end) turn refl place (needed_touched end r (to_come old contents) (to_come new contents) t u is low unrefused adds) told

-- The loop.

pub more_in : (end : ℕ) (first : Log) (old new : CursorView) (contents later : Contents) (t u v : TouchedView) (turn : Turn) → later ≡ contents → turn ≡ More
    → Touches end first (to_come old contents) t u → TouchesNext end (to_come old later) (to_come new later) u v (Ok turn) → Touches end first (to_come new contents) t v
more_in end first old new contents later t u v turn same is touches next =
    let step : Touches end (to_come old later) (to_come new later) u v = subst (λ (k : Turn). TouchesNext end (to_come old later) (to_come new later) u v (Ok k)) is next in
    touched_more end first (to_come old contents) (to_come new contents) t u v touches (subst (λ (k : Contents). Touches end (to_come old k) (to_come new k) u v) same step)

pub last_in : (end : ℕ) (first : Log) (old new : CursorView) (contents later : Contents) (t u v : TouchedView) (turn : Turn) → later ≡ contents → turn ≡ Done
    → Touches end first (to_come old contents) t u → TouchesNext end (to_come old later) (to_come new later) u v (Ok turn) → IsTouched end first t v
last_in end first old new contents later t u v turn same is touches next =
    let step : IsTouched end (to_come old later) u v = subst (λ (k : Turn). TouchesNext end (to_come old later) (to_come new later) u v (Ok k)) is next in
    touched_last end first (to_come old contents) t u v touches (subst (λ (k : Contents). IsTouched end (to_come old k) u v) same step)

pub refused_in : (end : ℕ) (first : Log) (old : CursorView) (contents later : Contents) (t u : TouchedView) (e : LogWalkFault) → later ≡ contents
    → Touches end first (to_come old contents) t u → IsFree e ⊎ (read_refusal end (to_come old later) ≡ Some e) → IsFree e ⊎ (read_refusal end first ≡ Some e)
refused_in end first old contents later t u e same touches refused =
    touched_refused end first (to_come old contents) t u e touches (subst (λ (k : Contents). IsFree e ⊎ (read_refusal end (to_come old k) ≡ Some e)) same refused)

pub further_in : (old new : CursorView) (turn : Turn) → turn ≡ More → MovesOn old new turn → IsFurther old new
further_in old new turn is moves = subst (MovesOn old new) is moves

-- What records name, block by block.

any_flat : (rel : RelName) (block : ℕ) (records : List LogRecord) → list_any (covers rel block) (named_by records) ≡ touches records rel block
any_flat rel block [] = refl
any_flat rel block (r ∷ rest) =
    list_any-append (covers rel block) (names_in r (record_parts r)) (named_by rest)
    ∙ ap (λ (b : Bool). list_any (covers rel block) (names_in r (record_parts r)) || b) (any_flat rel block rest)

-- a set of what they name has the blocks that they touch
pub named_has : (records : List LogRecord) (t : TouchedView) → Adds (named_by records) nothing_touched t → (rel : RelName) (block : ℕ) → has_in t rel block ≡ touches records rel block
named_has records t adds rel block = adds.has rel block ∙ any_flat rel block records

-- A whole log, in a set that was empty.

pub whole_touched : (end : ℕ) (log : Log) (cursor : CursorView) (contents : Contents) (t u : TouchedView) → to_come cursor contents ≡ log → t ≡ nothing_touched
    → IsTouched end (to_come cursor contents) t u → IsTouched end log nothing_touched u
whole_touched end log cursor contents t u is none touched =
    subst (λ (l : Log). IsTouched end l nothing_touched u) is (subst (λ (v : TouchedView). IsTouched end (to_come cursor contents) v u) none touched)

pub whole_refused : (end : ℕ) (log : Log) (cursor : CursorView) (contents : Contents) (e : LogWalkFault) → to_come cursor contents ≡ log
    → IsFree e ⊎ (read_refusal end (to_come cursor contents) ≡ Some e) → IsFree e ⊎ (read_refusal end log ≡ Some e)
whole_refused end log cursor contents e is refused = subst (λ (l : Log). IsFree e ⊎ (read_refusal end l ≡ Some e)) is refused
