-- A dump that goes record by record is the dump of the whole list.
use Rattle.std.proofs.Common.{◌≡◌, ℕ, zero, suc, ◌+◌, ◌-◌, ◌<◌, ◌==◌, ◌⊎◌, Bool, true, false, cond, is_ok, nat_lt, List, [], ◌∷◌, ◌++◌, length, take, map, Option, Some, None, Result, Ok, Err, refl, ap, sym, ◌∙◌, arith, inl, inr}
use Rattle.std.specs.Prelude.{filter, if◌then◌else◌}
use Rattle.std.specs.List.{list_all, take_while}
use Rattle.std.proofs.lemmas.Bool.Decides.{nat_tests}
use Rattle.cluster_tree.specs.Causes.{first_of, unless}
use Rattle.wal_base.specs.declared.lsn.Lsn.{Lsn}
use Rattle.wal_records.specs.declared.why.Why.{Why}
use Rattle.wal_records.specs.Log.{Log, end_after}
use Rattle.wal_records.specs.Reading.{LogRecord}
use Rattle.block_refs.specs.declared.fault.PartsFault.{PartsFault}
use Rattle.block_refs.specs.Outcomes.{record_parts}
use Rattle.block_refs.specs.Parts.{PartsView}
use Rattle.rmgr_hooks.specs.Custom.{Extension}
use Rattle.waldump_core.specs.declared.dumped.Dumped.{Dumped}
use Rattle.waldump_core.specs.declared.fault.DumpFault.{DumpFault}
use Rattle.waldump_core.specs.declared.fault.DumpFault.TheVariants as fault
use Rattle.waldump_core.specs.declared.progress.Progress.{Progress}
use Rattle.waldump_core.specs.declared.selection.Selection.{Selection}
use Rattle.waldump_core.specs.Dump.{Dump, answer_of, at_lsn, dump_of_log, fills, flaw_of, from_start, has_parts, is_before, is_met, is_selected, line_of, shown_lines, told, within}
use Rattle.waldump_core.specs.Lists.{is_empty, up_to}
use Rattle.waldump_core.specs.Selecting.{meets}
use Rattle.waldump_core.proofs.ListLemmas.{kept_first, kept_none}
use Rattle.waldump_core.specs.Walk.{after, at_stop, nothing_shown, read_turn, selected_turn, shown_of, shows_nothing, turn_at, walk_behind, walk_over}

abbrev behind : ℕ → Option Lsn → Progress
behind shown end = record { shown = shown; end = end }

-- those still to be shown, behind so many
abbrev rest_within : ℕ → ℕ → List LogRecord → List LogRecord
rest_within limit shown records = if limit == 0 then records else take (limit - shown) records

abbrev end_or : Lsn → Option Lsn → ℕ
end_or start None = start.0
end_or start (Some end) = end.0

-- what is told of these records, behind so many that were shown and this end
abbrev told_left : Selection → ℕ → Option Lsn → List LogRecord → Dumped
told_left sel shown end records = record {
  shown = shown + length (rest_within sel.limit shown (filter (is_selected sel) records));
  end = at_lsn (end_after (end_or sel.start end) (up_to (sel.limit - shown) (is_selected sel) records));
}

-- what ends the dump, where there was a record
abbrev ended_left : ℕ → Selection → ℕ → Why → List LogRecord → Dumped → Result Dumped DumpFault
ended_left size sel place why ahead done =
    if fills sel.limit done.shown then Ok done
    else unless (first_of (map flaw_of (take_while (is_before size sel.stop) ahead)))
    (if list_all (is_before size sel.stop) ahead then Err (fault.LogEnds (at_lsn place) why) else Ok done)

abbrev or_none : Selection → Option Lsn → List LogRecord → Result Dumped DumpFault → Result Dumped DumpFault
or_none sel None before answer = if is_empty before then Err (fault.NoRecordAt sel.start) else answer
or_none sel (Some end) before answer = answer

-- the dump of the records ahead, said of their list
abbrev lines_left : Option Extension → ℕ → Selection → ℕ → List LogRecord → List (List ℕ)
lines_left custom size sel shown ahead = shown_lines custom sel (rest_within sel.limit shown (filter (is_selected sel) (take_while has_parts (take_while (is_before size sel.stop) ahead))))

abbrev answer_left : ℕ → Selection → ℕ → Why → ℕ → Option Lsn → List LogRecord → Result Dumped DumpFault
answer_left size sel place why shown end ahead =
    or_none sel end (take_while (is_before size sel.stop) ahead)
    (ended_left size sel place why ahead (told_left sel shown end (take_while has_parts (take_while (is_before size sel.stop) ahead))))

record Rest (custom : Option Extension) (size : ℕ) (sel : Selection) (place : ℕ) (why : Why) (shown : ℕ) (end : Option Lsn) (ahead : List LogRecord) (dump : Dump) : Type 0 where
  lines : dump.lines ≡ lines_left custom size sel shown ahead
  answer : dump.answer ≡ answer_left size sel place why shown end ahead

-- a limit that isn't reached yet
abbrev Room : ℕ → ℕ → Type 0
Room limit shown = (limit ≡ 0) ⊎ (shown < limit)

-- what follows for the records behind one
abbrev Follows : Option Extension → ℕ → Selection → ℕ → Why → List LogRecord → (Progress → Dump) → Type 0
Follows custom size sel place why ahead rest = (shown : ℕ) (end : Option Lsn) → Room sel.limit shown → Rest custom size sel place why shown end ahead (rest (behind shown end))

not_full : (limit shown more : ℕ) → Room limit shown → more ≡ 0 → fills limit (shown + more) ≡ false
not_full limit shown more (inl none) is = grind (arith, nat_tests)
not_full limit shown more (inr room) is = grind (arith, nat_tests)

none_within : (n : ℕ) (b : Bool) (none : List LogRecord) → none ≡ [] → cond b none (take n none) ≡ []
none_within n true none is = is
none_within zero false none is = refl
none_within (suc n) false none is = ap (take (suc n)) is

-- no record is left
none_left : (limit shown : ℕ) → length (rest_within limit shown []) ≡ 0
none_left limit shown = ap length (none_within (limit - shown) (limit == 0) [] refl)

no_lines : (custom : Option Extension) (sel : Selection) (q : Bool) (records : List LogRecord) → records ≡ [] → cond q [] (map (line_of custom sel) records) ≡ []
no_lines custom sel true records is = refl
no_lines custom sel false records is = ap (map (line_of custom sel)) is

none_shown : (custom : Option Extension) (sel : Selection) (shown : ℕ) → shown_lines custom sel (rest_within sel.limit shown []) ≡ []
none_shown custom sel shown = no_lines custom sel sel.quiet (rest_within sel.limit shown []) (none_within (sel.limit - shown) (sel.limit == 0) [] refl)

-- where the records end, behind the last one
log_ended : (custom : Option Extension) (size : ℕ) (sel : Selection) (place : ℕ) (why : Why) (shown : ℕ) (end : Option Lsn) → Room sel.limit shown → Rest custom size sel place why shown end [] (walk_over custom size sel place why [] (behind shown end))
unfolding walk_over first_of
log_ended custom size sel place why shown None room = record { lines = sym (none_shown custom sel shown); answer = refl }
log_ended custom size sel place why shown (Some end) room = record {
  lines = sym (none_shown custom sel shown);
  answer = rw (not_full sel.limit shown (length (rest_within sel.limit shown [])) room (none_left sel.limit shown)) refl;
}

-- at a record that doesn't lie before the stop
stopped : (custom : Option Extension) (size : ℕ) (sel : Selection) (place : ℕ) (why : Why) (shown : ℕ) (end : Option Lsn) (r : LogRecord) (ahead : List LogRecord) (rest : Progress → Dump) → is_before size sel.stop r ≡ false → Room sel.limit shown
    → Rest custom size sel place why shown end (r ∷ ahead) (after (shows_nothing (at_stop sel.start shown end)) rest)
unfolding first_of
stopped custom size sel place why shown None r ahead rest past room = record { lines = rw past (sym (none_shown custom sel shown)); answer = rw past refl }
stopped custom size sel place why shown (Some end) r ahead rest past room =
    let none : shown + length (rest_within sel.limit shown []) ≡ shown = omega (arith, none_left sel.limit shown) in
    let full : fills sel.limit (shown + length (rest_within sel.limit shown [])) ≡ false = not_full sel.limit shown (length (rest_within sel.limit shown [])) room (none_left sel.limit shown) in
    record {
      lines = rw past (sym (none_shown custom sel shown));
      answer = rw (past, full) (ap (λ n. Ok record { shown = n; end = end }) (sym none));
    }

-- at a record that has no parts
flawed : (custom : Option Extension) (size : ℕ) (sel : Selection) (place : ℕ) (why : Why) (shown : ℕ) (end : Option Lsn) (r : LogRecord) (ahead : List LogRecord) (rest : Progress → Dump) (e : PartsFault) → is_before size sel.stop r ≡ true → record_parts r ≡ Err e → Room sel.limit shown
    → Rest custom size sel place why shown end (r ∷ ahead) (after (read_turn custom sel shown r (Err e)) rest)
unfolding first_of
flawed custom size sel place why shown None r ahead rest e before is room =
    let full : fills sel.limit (shown + length (rest_within sel.limit shown [])) ≡ false = not_full sel.limit shown (length (rest_within sel.limit shown [])) room (none_left sel.limit shown) in
    record {
      lines = rw (kept_first (is_before size sel.stop) r ahead before, kept_none has_parts r (take_while (is_before size sel.stop) ahead) (ap is_ok is)) (sym (none_shown custom sel shown));
      answer = rw (kept_first (is_before size sel.stop) r ahead before, kept_none has_parts r (take_while (is_before size sel.stop) ahead) (ap is_ok is), is, full) refl;
    }
flawed custom size sel place why shown (Some end) r ahead rest e before is room =
    let full : fills sel.limit (shown + length (rest_within sel.limit shown [])) ≡ false = not_full sel.limit shown (length (rest_within sel.limit shown [])) room (none_left sel.limit shown) in
    record {
      lines = rw (kept_first (is_before size sel.stop) r ahead before, kept_none has_parts r (take_while (is_before size sel.stop) ahead) (ap is_ok is)) (sym (none_shown custom sel shown));
      answer = rw (kept_first (is_before size sel.stop) r ahead before, kept_none has_parts r (take_while (is_before size sel.stop) ahead) (ap is_ok is), is, full) refl;
    }

-- the first record can be read, so what follows is said of the others
passed_answer : (size : ℕ) (sel : Selection) (place : ℕ) (why : Why) (end : Option Lsn) (r : LogRecord) (ahead : List LogRecord) (parts : PartsView) (done : Dumped) → is_before size sel.stop r ≡ true → record_parts r ≡ Ok parts
    → or_none sel end (take_while (is_before size sel.stop) (r ∷ ahead)) (ended_left size sel place why (r ∷ ahead) done) ≡ ended_left size sel place why ahead done
unfolding first_of
passed_answer size sel place why None r ahead parts done before is = rw (kept_first (is_before size sel.stop) r ahead before, before, is) refl
passed_answer size sel place why (Some end) r ahead parts done before is = rw (kept_first (is_before size sel.stop) r ahead before, before, is) refl

one_more : (limit shown : ℕ) (r : LogRecord) (records : List LogRecord) → Room limit shown → rest_within limit shown (r ∷ records) ≡ r ∷ rest_within limit (shown + 1) records
one_more limit shown r records (inl none) = rw none refl
one_more limit shown r records (inr room) =
    let some : (limit == 0) ≡ false = grind (arith, nat_tests) in
    let less : limit - shown ≡ suc (limit - (shown + 1)) = omega arith in
    rw (some, less) refl

room_more : (limit shown : ℕ) → Room limit shown → (shown + 1 == limit) ≡ false → Room limit (shown + 1)
room_more limit shown (inl none) other = inl none
room_more limit shown (inr room) other = let differs : (shown + 1 ≡ limit) → ⊥ = λ same. absurd (grind (arith, nat_tests)) in inr (grind (arith, nat_tests))

at_limit : (limit shown : ℕ) (records : List LogRecord) → (shown + 1 == limit) ≡ true → rest_within limit (shown + 1) records ≡ []
at_limit limit shown records full =
    let some : (limit == 0) ≡ false = grind (arith, nat_tests) in
    let none : limit - (shown + 1) ≡ 0 = grind (arith, nat_tests) in
    rw (some, none) refl

-- a record that can be read stands before the others that can
read_more : (size : ℕ) (sel : Selection) (r : LogRecord) (ahead : List LogRecord) (parts : PartsView) → is_before size sel.stop r ≡ true → record_parts r ≡ Ok parts
    → take_while has_parts (take_while (is_before size sel.stop) (r ∷ ahead)) ≡ r ∷ take_while has_parts (take_while (is_before size sel.stop) ahead)
read_more size sel r ahead parts before is =
    ap (take_while has_parts) (kept_first (is_before size sel.stop) r ahead before) ∙ kept_first has_parts r (take_while (is_before size sel.stop) ahead) (ap is_ok is)

picked : (sel : Selection) (r : LogRecord) (records : List LogRecord) (b : Bool) → is_selected sel r ≡ b → filter (is_selected sel) (r ∷ records) ≡ cond b (r ∷ filter (is_selected sel) records) (filter (is_selected sel) records)
picked sel r records b is = ap (λ (c : Bool). cond c (r ∷ filter (is_selected sel) records) (filter (is_selected sel) records)) is

up_other : (n : ℕ) (test : LogRecord → Bool) (r : LogRecord) (records : List LogRecord) → test r ≡ false → up_to n test (r ∷ records) ≡ r ∷ up_to n test records
up_other n test r records is = rw is refl

up_last : (n : ℕ) (test : LogRecord → Bool) (r : LogRecord) (records : List LogRecord) → test r ≡ true → (n == 1) ≡ true → up_to n test (r ∷ records) ≡ r ∷ []
up_last n test r records is one = rw (is, one) refl

up_more : (n : ℕ) (test : LogRecord → Bool) (r : LogRecord) (records : List LogRecord) → test r ≡ true → (n == 1) ≡ false → up_to n test (r ∷ records) ≡ r ∷ up_to (n - 1) test records
up_more n test r records is more = rw (is, more) refl

one_left : (limit shown : ℕ) → (shown + 1 == limit) ≡ true → (limit - shown == 1) ≡ true
one_left limit shown full = grind (arith, nat_tests)

more_left : (limit shown : ℕ) → Room limit shown → (shown + 1 == limit) ≡ false → (limit - shown == 1) ≡ false
more_left limit shown (inl none) more = grind (arith, nat_tests)
more_left limit shown (inr room) more = let differs : (shown + 1 ≡ limit) → ⊥ = λ same. absurd (grind (arith, nat_tests)) in grind (arith, nat_tests)

abbrev told_so : ℕ → ℕ → Dumped
told_so shown end = record { shown = shown; end = at_lsn end }

told_is : (n m a b : ℕ) → n ≡ m → a ≡ b → told_so n a ≡ told_so m b
told_is n m a b n_is a_is = ap (λ k. told_so k a) n_is ∙ ap (told_so m) a_is

-- what is told of the records is told of those behind the first, which isn't selected
told_other : (sel : Selection) (shown : ℕ) (end : Option Lsn) (r : LogRecord) (records : List LogRecord) → is_selected sel r ≡ false → told_left sel shown end (r ∷ records) ≡ told_left sel shown (Some (at_lsn r.end)) records
told_other sel shown end r records is =
    told_is _ _ _ _ (ap (λ l. shown + length (rest_within sel.limit shown l)) (picked sel r records false is))
    (ap (end_after (end_or sel.start end)) (up_other (sel.limit - shown) (is_selected sel) r records is))

count_more : (sel : Selection) (shown : ℕ) (r : LogRecord) (records : List LogRecord) → is_selected sel r ≡ true → Room sel.limit shown
    → length (rest_within sel.limit shown (filter (is_selected sel) (r ∷ records))) ≡ suc (length (rest_within sel.limit (shown + 1) (filter (is_selected sel) records)))
count_more sel shown r records is room =
    ap (λ l. length (rest_within sel.limit shown l)) (picked sel r records true is) ∙ ap length (one_more sel.limit shown r (filter (is_selected sel) records) room)

-- the same where it is selected, and doesn't fill the limit
told_more : (sel : Selection) (shown : ℕ) (end : Option Lsn) (r : LogRecord) (records : List LogRecord) → is_selected sel r ≡ true → Room sel.limit shown → (shown + 1 == sel.limit) ≡ false
    → told_left sel shown end (r ∷ records) ≡ told_left sel (shown + 1) (Some (at_lsn r.end)) records
told_more sel shown end r records is room more =
    let counted = count_more sel shown r records is room in
    let left : sel.limit - shown - 1 ≡ sel.limit - (shown + 1) = omega arith in
    told_is _ _ _ _ (omega (arith, counted))
    (ap (end_after (end_or sel.start end)) (up_more (sel.limit - shown) (is_selected sel) r records is (more_left sel.limit shown room more))
    ∙ ap (λ n. end_after r.end (up_to n (is_selected sel) records)) left)

-- and where it fills it
told_full : (sel : Selection) (shown : ℕ) (end : Option Lsn) (r : LogRecord) (records : List LogRecord) → is_selected sel r ≡ true → Room sel.limit shown → (shown + 1 == sel.limit) ≡ true
    → told_left sel shown end (r ∷ records) ≡ told_so (shown + 1) r.end
told_full sel shown end r records is room full =
    let counted = count_more sel shown r records is room in
    let none : length (rest_within sel.limit (shown + 1) (filter (is_selected sel) records)) ≡ 0 = ap length (at_limit sel.limit shown (filter (is_selected sel) records) full) in
    told_is _ _ _ _ (omega (arith, counted, none))
    (ap (end_after (end_or sel.start end)) (up_last (sel.limit - shown) (is_selected sel) r records is (one_left sel.limit shown full)))

filled : (limit shown : ℕ) → (shown + 1 == limit) ≡ true → fills limit (shown + 1) ≡ true
filled limit shown full = let some : (limit == 0) ≡ false = grind (arith, nat_tests) in rw (some, full) refl

-- the answer behind a record that can be read
answer_behind : (size : ℕ) (sel : Selection) (place : ℕ) (why : Why) (shown next : ℕ) (end : Option Lsn) (r : LogRecord) (ahead : List LogRecord) (parts : PartsView) → is_before size sel.stop r ≡ true → record_parts r ≡ Ok parts
    → told_left sel shown end (r ∷ take_while has_parts (take_while (is_before size sel.stop) ahead)) ≡ told_left sel next (Some (at_lsn r.end)) (take_while has_parts (take_while (is_before size sel.stop) ahead))
    → answer_left size sel place why shown end (r ∷ ahead) ≡ answer_left size sel place why next (Some (at_lsn r.end)) ahead
answer_behind size sel place why shown next end r ahead parts before is same =
    passed_answer size sel place why end r ahead parts (told_left sel shown end (take_while has_parts (take_while (is_before size sel.stop) (r ∷ ahead)))) before is
    ∙ ap (λ l. ended_left size sel place why ahead (told_left sel shown end l)) (read_more size sel r ahead parts before is)
    ∙ ap (ended_left size sel place why ahead) same

loud_lines : (custom : Option Extension) (sel : Selection) (r : LogRecord) (parts : PartsView) (records : List LogRecord) (q : Bool) → sel.quiet ≡ q → record_parts r ≡ Ok parts → shown_of custom sel r parts ++ shown_lines custom sel records ≡ shown_lines custom sel (r ∷ records)
loud_lines custom sel r parts records true quiet is = rw quiet refl
loud_lines custom sel r parts records false quiet is = rw (quiet, is) refl

-- the lines behind a record that can be read
lines_other : (custom : Option Extension) (size : ℕ) (sel : Selection) (shown : ℕ) (r : LogRecord) (ahead : List LogRecord) (parts : PartsView) → is_before size sel.stop r ≡ true → record_parts r ≡ Ok parts → is_selected sel r ≡ false
    → lines_left custom size sel shown (r ∷ ahead) ≡ lines_left custom size sel shown ahead
lines_other custom size sel shown r ahead parts before is other =
    ap (λ l. shown_lines custom sel (rest_within sel.limit shown (filter (is_selected sel) l))) (read_more size sel r ahead parts before is)
    ∙ ap (λ l. shown_lines custom sel (rest_within sel.limit shown l)) (picked sel r (take_while has_parts (take_while (is_before size sel.stop) ahead)) false other)

lines_more : (custom : Option Extension) (size : ℕ) (sel : Selection) (shown : ℕ) (r : LogRecord) (ahead : List LogRecord) (parts : PartsView) → is_before size sel.stop r ≡ true → record_parts r ≡ Ok parts → is_selected sel r ≡ true → Room sel.limit shown
    → shown_of custom sel r parts ++ lines_left custom size sel (shown + 1) ahead ≡ lines_left custom size sel shown (r ∷ ahead)
lines_more custom size sel shown r ahead parts before is selected room =
    loud_lines custom sel r parts (rest_within sel.limit (shown + 1) (filter (is_selected sel) (take_while has_parts (take_while (is_before size sel.stop) ahead)))) sel.quiet refl is
    ∙ ap (shown_lines custom sel) (sym (one_more sel.limit shown r (filter (is_selected sel) (take_while has_parts (take_while (is_before size sel.stop) ahead))) room))
    ∙ ap (λ l. shown_lines custom sel (rest_within sel.limit shown l)) (sym (picked sel r (take_while has_parts (take_while (is_before size sel.stop) ahead)) true selected))
    ∙ ap (λ l. shown_lines custom sel (rest_within sel.limit shown (filter (is_selected sel) l))) (sym (read_more size sel r ahead parts before is))

-- nothing is left behind the one that fills the limit
none_filled : (custom : Option Extension) (size : ℕ) (sel : Selection) (shown : ℕ) (ahead : List LogRecord) → (shown + 1 == sel.limit) ≡ true → lines_left custom size sel (shown + 1) ahead ≡ []
none_filled custom size sel shown ahead full =
    no_lines custom sel sel.quiet (rest_within sel.limit (shown + 1) (filter (is_selected sel) (take_while has_parts (take_while (is_before size sel.stop) ahead)))) (at_limit sel.limit shown (filter (is_selected sel) (take_while has_parts (take_while (is_before size sel.stop) ahead))) full)

full_answer : (size : ℕ) (sel : Selection) (place : ℕ) (why : Why) (shown : ℕ) (r : LogRecord) (ahead : List LogRecord) → (shown + 1 == sel.limit) ≡ true
    → ended_left size sel place why ahead (told_so (shown + 1) r.end) ≡ Ok (told_so (shown + 1) r.end)
full_answer size sel place why shown r ahead full = rw (filled sel.limit shown full) refl

-- a record that is shown
shown_rest : (custom : Option Extension) (size : ℕ) (sel : Selection) (place : ℕ) (why : Why) (shown : ℕ) (end : Option Lsn) (r : LogRecord) (ahead : List LogRecord) (rest : Progress → Dump) (parts : PartsView) (full : Bool) → (shown + 1 == sel.limit) ≡ full
    → is_before size sel.stop r ≡ true → record_parts r ≡ Ok parts → is_selected sel r ≡ true → Room sel.limit shown → Follows custom size sel place why ahead rest
    → Rest custom size sel place why shown end (r ∷ ahead) (after (selected_turn custom sel shown r parts true) rest)
shown_rest custom size sel place why shown end r ahead rest parts true full before is selected room follows =
    let done = told_full sel shown end r (take_while has_parts (take_while (is_before size sel.stop) ahead)) selected room full in
    record {
      lines = rw full (ap (λ l. shown_of custom sel r parts ++ l) (sym (none_filled custom size sel shown ahead full)) ∙ lines_more custom size sel shown r ahead parts before is selected room);
      answer = rw full (sym (passed_answer size sel place why end r ahead parts (told_left sel shown end (take_while has_parts (take_while (is_before size sel.stop) (r ∷ ahead)))) before is
          ∙ ap (λ l. ended_left size sel place why ahead (told_left sel shown end l)) (read_more size sel r ahead parts before is)
          ∙ ap (ended_left size sel place why ahead) done ∙ full_answer size sel place why shown r ahead full));
    }
shown_rest custom size sel place why shown end r ahead rest parts false more before is selected room follows =
    let next = follows (shown + 1) (Some (at_lsn r.end)) (room_more sel.limit shown room more) in
    record {
      lines = rw more (ap (λ l. shown_of custom sel r parts ++ l) next.lines ∙ lines_more custom size sel shown r ahead parts before is selected room);
      answer = rw more (next.answer ∙ sym (answer_behind size sel place why shown (shown + 1) end r ahead parts before is (told_more sel shown end r (take_while has_parts (take_while (is_before size sel.stop) ahead)) selected room more)));
    }

met_rest : (custom : Option Extension) (size : ℕ) (sel : Selection) (place : ℕ) (why : Why) (shown : ℕ) (end : Option Lsn) (r : LogRecord) (ahead : List LogRecord) (rest : Progress → Dump) (parts : PartsView) (met : Bool) → meets sel r parts ≡ met
    → is_before size sel.stop r ≡ true → record_parts r ≡ Ok parts → Room sel.limit shown → Follows custom size sel place why ahead rest
    → Rest custom size sel place why shown end (r ∷ ahead) (after (selected_turn custom sel shown r parts met) rest)
met_rest custom size sel place why shown end r ahead rest parts true met before is room follows =
    shown_rest custom size sel place why shown end r ahead rest parts (shown + 1 == sel.limit) refl before is (ap (is_met sel r) is ∙ met) room follows
met_rest custom size sel place why shown end r ahead rest parts false met before is room follows =
    let other : is_selected sel r ≡ false = ap (is_met sel r) is ∙ met in
    let next = follows shown (Some (at_lsn r.end)) room in
    record {
      lines = next.lines ∙ sym (lines_other custom size sel shown r ahead parts before is other);
      answer = next.answer ∙ sym (answer_behind size sel place why shown shown end r ahead parts before is (told_other sel shown end r (take_while has_parts (take_while (is_before size sel.stop) ahead)) other));
    }

read_rest : (custom : Option Extension) (size : ℕ) (sel : Selection) (place : ℕ) (why : Why) (shown : ℕ) (end : Option Lsn) (r : LogRecord) (ahead : List LogRecord) (rest : Progress → Dump) (found : Result PartsView PartsFault) → record_parts r ≡ found
    → is_before size sel.stop r ≡ true → Room sel.limit shown → Follows custom size sel place why ahead rest
    → Rest custom size sel place why shown end (r ∷ ahead) (after (read_turn custom sel shown r found) rest)
read_rest custom size sel place why shown end r ahead rest (Err e) is before room follows = flawed custom size sel place why shown end r ahead rest e before is room
read_rest custom size sel place why shown end r ahead rest (Ok parts) is before room follows = met_rest custom size sel place why shown end r ahead rest parts (meets sel r parts) refl before is room follows

-- a record, by where it lies
rest_at : (custom : Option Extension) (size : ℕ) (sel : Selection) (place : ℕ) (why : Why) (shown : ℕ) (end : Option Lsn) (r : LogRecord) (records : List LogRecord) (rest : Progress → Dump) (below before : Bool) → nat_lt r.start sel.start.0 ≡ below → is_before size sel.stop r ≡ before
    → Room sel.limit shown → Follows custom size sel place why (from_start sel records) rest → Rest custom size sel place why shown end (from_start sel (r ∷ records)) (after (turn_at custom size sel (behind shown end) r) rest)
unfolding turn_at
rest_at custom size sel place why shown end r records rest true before low lies room follows = rw low (follows shown end room)
rest_at custom size sel place why shown end r records rest false false low lies room follows = rw (low, lies) (stopped custom size sel place why shown end r (from_start sel records) rest lies room)
rest_at custom size sel place why shown end r records rest false true low lies room follows = rw (low, lies) (read_rest custom size sel place why shown end r (from_start sel records) rest (record_parts r) refl lies room follows)

rest_of : (custom : Option Extension) (size : ℕ) (sel : Selection) (place : ℕ) (why : Why) (records : List LogRecord) → Follows custom size sel place why (from_start sel records) (walk_over custom size sel place why records)
unfolding walk_over
rest_of custom size sel place why [] shown end room = log_ended custom size sel place why shown end room
rest_of custom size sel place why (r ∷ records) shown end room =
    rest_at custom size sel place why shown end r records (walk_over custom size sel place why records) (nat_lt r.start sel.start.0) (is_before size sel.stop r) refl refl room (rest_of custom size sel place why records)

start_room : (limit : ℕ) → Room limit 0
start_room limit = grind arith

all_within : (limit : ℕ) (records : List LogRecord) → rest_within limit 0 records ≡ within limit records
all_within limit records = let none : limit - 0 ≡ limit = omega arith in rw none refl

told_all : (size : ℕ) (sel : Selection) (records : List LogRecord) → told_left sel 0 None (take_while has_parts (take_while (is_before size sel.stop) (from_start sel records))) ≡ told size sel records
told_all size sel records =
    let readable = take_while has_parts (take_while (is_before size sel.stop) (from_start sel records)) in
    let none : sel.limit - 0 ≡ sel.limit = omega arith in
    let count : length (rest_within sel.limit 0 (filter (is_selected sel) readable)) ≡ length (within sel.limit (filter (is_selected sel) readable)) = ap length (all_within sel.limit (filter (is_selected sel) readable)) in
    told_is _ _ _ _ (omega (arith, count)) (ap (λ n. end_after sel.start.0 (up_to n (is_selected sel) readable)) none)

dump_is : (a b : Dump) → a.lines ≡ b.lines → a.answer ≡ b.answer → a ≡ b
dump_is a b lines answer = ap (λ l. record { lines = l; answer = a.answer }) lines ∙ ap (λ x. record { lines = b.lines; answer = x }) answer

-- A walk from the first record on gives the dump of the log.
pub walk_is : (custom : Option Extension) (size : ℕ) (sel : Selection) (log : Log) → walk_behind custom size sel nothing_shown log ≡ dump_of_log custom size sel log
unfolding answer_of
walk_is custom size sel log =
    let rest = rest_of custom size sel log.place log.why log.records 0 None (start_room sel.limit) in
    dump_is _ _ (rest.lines ∙ ap (shown_lines custom sel) (all_within sel.limit (filter (is_selected sel) (take_while has_parts (take_while (is_before size sel.stop) (from_start sel log.records))))))
    (rest.answer ∙ ap (λ (d : Dumped). or_none sel None (take_while (is_before size sel.stop) (from_start sel log.records)) (ended_left size sel log.place log.why (from_start sel log.records) d)) (told_all size sel log.records))
