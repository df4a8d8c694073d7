-- A dump goes record by record.
use Rattle.std.proofs.Common.{◌≡◌, ◌≢◌, ℕ, ◌⊎◌, Bool, true, false, nat_lt, Option, Some, IsSomeAnd, List, [], ◌++◌, Result, Ok, Err, refl, ap, sym, ◌∙◌, subst, inl, inr, append-nil}
use Rattle.acts.specs.Texts.{texts_of}
use Rattle.cluster_tree.specs.Contents.{Contents}
use Rattle.wal_base.specs.Segment.{bytes_of}
use Rattle.wal_base.specs.declared.seg_size.SegSize.{SegSize}
use Rattle.wal_pages.specs.declared.log_path.LogPath.{LogPath}
use Rattle.wal_records.specs.Cursor.{CursorView, Steps, to_come}
use Rattle.wal_records.specs.declared.cursor.Step.{Step}
use Rattle.wal_records.specs.declared.cursor.Step.TheVariants as steps
use Rattle.wal_records.specs.declared.why.Why.{Why}
use Rattle.wal_pages.specs.Header.{page_of}
use Rattle.wal_records.specs.Further.{pages_of}
use Rattle.wal_records.specs.Log.{Log, ended, log_of, with_first}
use Rattle.wal_records.specs.Reading.{LogRecord}
use Rattle.block_refs.specs.declared.fault.PartsFault.{PartsFault}
use Rattle.block_refs.specs.declared.fault.PartsFault.TheVariants as parts_fault
use Rattle.block_refs.specs.Outcomes.{record_parts}
use Rattle.block_refs.specs.Parts.{PartsView}
use Rattle.rmgr_hooks.specs.Custom.{Extension}
use Rattle.waldump_core.specs.declared.fault.DumpFault.{DumpFault}
use Rattle.waldump_core.specs.declared.fault.DumpFault.TheVariants as fault
use Rattle.waldump_core.specs.declared.progress.Progress.{Progress}
use Rattle.waldump_core.specs.declared.progress.Turn.{Turn}
use Rattle.waldump_core.specs.declared.progress.Turn.TheVariants.{Goes, Stops}
use Rattle.waldump_core.specs.declared.selection.Selection.{Selection}
use Rattle.waldump_core.specs.Dump.{Dump, dump_from, dump_of, is_before}
use Rattle.waldump_core.specs.Faults.{parts_cause}
use Rattle.waldump_core.specs.FirstPlace.{first_place}
use Rattle.waldump_core.specs.Line.{line_text}
use Rattle.waldump_core.specs.Selecting.{meets}
use Rattle.waldump_core.specs.Steps.{EndsBy, Gives, GoesUp, IsFurther, left, left_behind}
use Rattle.waldump_core.specs.Texts.{IsOfReads, is_read}
use Rattle.waldump_core.specs.Walk.{Shown, after, after_turn, answered, at_end, nothing_shown, read_turn, selected_turn, shown_of, turn_at, walk_behind, walk_over, with_lines}
use Rattle.waldump_core.proofs.WalkLemmas.{walk_is}

-- nothing was added
pub none_added : (old : List ℕ) (lines : List (List ℕ)) → lines ≡ [] → old ≡ old ++ texts_of lines
none_added old lines none = sym (append-nil old) ∙ ap (λ l. old ++ texts_of l) (sym none)

-- a quiet dump shows nothing, and another one the record's line
pub quiet_shown : (custom : Option Extension) (sel : Selection) (r : LogRecord) (parts : PartsView) → sel.quiet ≡ true → shown_of custom sel r parts ≡ []
quiet_shown custom sel r parts quiet = rw quiet refl

pub line_shown : (custom : Option Extension) (sel : Selection) (r : LogRecord) (parts : PartsView) (old new : List ℕ) → sel.quiet ≡ false → new ≡ old ++ line_text custom sel.details r parts → new ≡ old ++ texts_of (shown_of custom sel r parts)
line_shown custom sel r parts old new loud is = rw loud (is ∙ ap (λ l. old ++ l) (sym (append-nil (line_text custom sel.details r parts))))

-- a record without parts isn't a failed read, nor a failed write
pub parts_unread : (e : PartsFault) → is_read (parts_cause e) ≡ false
parts_unread (parts_fault.BadParts at offset) = refl
parts_unread (parts_fault.Compressed at id) = refl

pub parts_unwritten : (e : PartsFault) → parts_cause e ≢ fault.SinkFault
parts_unwritten (parts_fault.BadParts at offset) is = absurd cc
parts_unwritten (parts_fault.Compressed at id) is = absurd cc

pub ruleset line_steps = (none_added, quiet_shown, line_shown)

pub ruleset turn_steps = (none_added, parts_unread, parts_unwritten)

-- what refuses a dump at a record shows nothing there
selected_fault : (custom : Option Extension) (sel : Selection) (shown : ℕ) (r : LogRecord) (parts : PartsView) (met : Bool) (e : DumpFault) → (selected_turn custom sel shown r parts met).outcome ≡ Err e → (selected_turn custom sel shown r parts met).lines ≡ []
selected_fault custom sel shown r parts true e is = absurd cc
selected_fault custom sel shown r parts false e is = refl

read_fault : (custom : Option Extension) (sel : Selection) (shown : ℕ) (r : LogRecord) (found : Result PartsView PartsFault) (e : DumpFault) → (read_turn custom sel shown r found).outcome ≡ Err e → (read_turn custom sel shown r found).lines ≡ []
read_fault custom sel shown r (Err why) e is = refl
read_fault custom sel shown r (Ok parts) e is = selected_fault custom sel shown r parts (meets sel r parts) e is

fault_at : (custom : Option Extension) (size : ℕ) (sel : Selection) (p : Progress) (r : LogRecord) (e : DumpFault) (below before : Bool) → nat_lt r.start sel.start.0 ≡ below → is_before size sel.stop r ≡ before → (turn_at custom size sel p r).outcome ≡ Err e → (turn_at custom size sel p r).lines ≡ []
unfolding turn_at
fault_at custom size sel p r e true before low lies is = rw low refl
fault_at custom size sel p r e false false low lies is = rw (low, lies) refl
fault_at custom size sel p r e false true low lies is = rw (low, lies) (read_fault custom sel p.shown r (record_parts r) e (rw (low, lies) at is))

fault_shows_nothing : (custom : Option Extension) (size : ℕ) (sel : Selection) (p : Progress) (r : LogRecord) (e : DumpFault) → (turn_at custom size sel p r).outcome ≡ Err e → (turn_at custom size sel p r).lines ≡ []
fault_shows_nothing custom size sel p r e is = fault_at custom size sel p r e (nat_lt r.start sel.start.0) (is_before size sel.stop r) refl refl is

-- the dump of a log that goes on with a record, and of one that has ended
dump_more : (custom : Option Extension) (size : ℕ) (sel : Selection) (p : Progress) (old new : Log) (r : LogRecord) → old ≡ with_first r new → walk_behind custom size sel p old ≡ after (turn_at custom size sel p r) (walk_over custom size sel new.place new.why new.records)
unfolding walk_over
dump_more custom size sel p old new r is = ap (walk_behind custom size sel p) is

dump_ended : (custom : Option Extension) (size : ℕ) (sel : Selection) (p : Progress) (old : Log) (place : ℕ) (why : Why) → old ≡ ended place why → walk_behind custom size sel p old ≡ answered (Err (at_end sel.start p.end place why))
unfolding walk_over
dump_ended custom size sel p old place why is = ap (walk_behind custom size sel p) is

stepped : (o : Option LogRecord) (r : LogRecord) (old new : Log) → o ≡ Some r → IsSomeAnd o (λ x. old ≡ with_first x new) → old ≡ with_first r new
stepped o r old new is h = let P : Option LogRecord → Type 0 = λ k. IsSomeAnd k (λ x. old ≡ with_first x new) in subst P is h

-- a step that gave a record, and one at the end
pub step_record : (old new : CursorView) (step : Step) (contents : Contents) (r : LogRecord) → step ≡ steps.Record → new.current ≡ Some r → Steps old new step contents → to_come old contents ≡ with_first r (to_come new contents)
step_record old new step contents r is current s =
    let P : Step → Type 0 = λ k. Steps old new k contents in
    stepped new.current r (to_come old contents) (to_come new contents) current (subst P is s)

pub ends_there : (custom : Option Extension) (sel : Selection) (p : Progress) (old : CursorView) (contents : Contents) (place : ℕ) (why : Why) (e : DumpFault) → to_come old contents ≡ ended place why → e ≡ at_end sel.start p.end place why → IsOfReads e ⊎ EndsBy (left custom sel p old contents) e
ends_there custom sel p old contents place why e is e_is =
    let same = dump_ended custom (bytes_of old.log.size) sel p (to_come old contents) place why is in
    inr record { lines = ap (λ (d : Dump). d.lines) same; answer = ap (λ (d : Dump). d.answer) same ∙ ap (λ x. Err x) (sym e_is) }

-- the dump behind a turn
abbrev rest_of : Turn → (Progress → Dump) → Dump
rest_of (Goes progress) rest = rest progress
rest_of (Stops dumped) rest = answered (Ok dumped)

turned : (turn : Turn) (rest : Progress → Dump) → after_turn (Ok turn) rest ≡ rest_of turn rest
turned (Goes progress) rest = refl
turned (Stops dumped) rest = refl

after_is : (shown : Shown) (rest : Progress → Dump) (turn : Turn) → shown.outcome ≡ Ok turn → after shown rest ≡ with_lines shown.lines (rest_of turn rest)
after_is shown rest turn is = ap (λ o. with_lines shown.lines (after_turn o rest)) is ∙ ap (with_lines shown.lines) (turned turn rest)

after_fault : (shown : Shown) (rest : Progress → Dump) (e : DumpFault) → shown.outcome ≡ Err e → shown.lines ≡ [] → after shown rest ≡ answered (Err e)
after_fault shown rest e is none = ap (λ o. with_lines shown.lines (after_turn o rest)) is ∙ ap (λ l. with_lines l (answered (Err e))) none

-- what a cursor has still to give
whole_is : (custom : Option Extension) (sel : Selection) (p : Progress) (old new : CursorView) (contents : Contents) (size : SegSize) (r : LogRecord) → size ≡ old.log.size → to_come old contents ≡ with_first r (to_come new contents) → left custom sel p old contents ≡ after (turn_at custom (bytes_of size) sel p r) (walk_over custom (bytes_of size) sel (to_come new contents).place (to_come new contents).why (to_come new contents).records)
whole_is custom sel p old new contents size r same is =
    let P : SegSize → Type 0 = λ s. left custom sel p old contents ≡ after (turn_at custom (bytes_of s) sel p r) (walk_over custom (bytes_of s) sel (to_come new contents).place (to_come new contents).why (to_come new contents).records) in
    subst P (sym same) (dump_more custom (bytes_of old.log.size) sel p (to_come old contents) (to_come new contents) r is)

rest_is : (custom : Option Extension) (sel : Selection) (turn : Turn) (new : CursorView) (contents : Contents) (size : SegSize) → size ≡ new.log.size → left_behind custom sel turn new contents ≡ rest_of turn (walk_over custom (bytes_of size) sel (to_come new contents).place (to_come new contents).why (to_come new contents).records)
rest_is custom sel (Goes progress) new contents size same = ap (λ (s : SegSize). walk_over custom (bytes_of s) sel (to_come new contents).place (to_come new contents).why (to_come new contents).records progress) (sym same)
rest_is custom sel (Stops dumped) new contents size same = refl

-- a turn gives what the record shows
pub turn_gives : (custom : Option Extension) (sel : Selection) (p : Progress) (old new : CursorView) (contents : Contents) (size : SegSize) (r : LogRecord) (turn : Turn) (pending pending' : List ℕ) → size ≡ old.log.size → new.log ≡ old.log → to_come old contents ≡ with_first r (to_come new contents)
    → (turn_at custom (bytes_of size) sel p r).outcome ≡ Ok turn → pending' ≡ pending ++ texts_of (turn_at custom (bytes_of size) sel p r).lines → Gives (left custom sel p old contents) pending (left_behind custom sel turn new contents) pending'
turn_gives custom sel p old new contents size r turn pending pending' same log is outcome text =
    let rest = rest_is custom sel turn new contents size (same ∙ ap (λ (l : LogPath). l.size) (sym log)) in
    let whole = whole_is custom sel p old new contents size r same is ∙ after_is (turn_at custom (bytes_of size) sel p r) _ turn outcome ∙ ap (with_lines (turn_at custom (bytes_of size) sel p r).lines) (sym rest) in
    record { added = (turn_at custom (bytes_of size) sel p r).lines; lines = ap (λ (d : Dump). d.lines) whole; answer = ap (λ (d : Dump). d.answer) whole; text = text }

-- a fault at a record is the dump's
pub turn_ends : (custom : Option Extension) (sel : Selection) (p : Progress) (old new : CursorView) (contents : Contents) (size : SegSize) (r : LogRecord) (e : DumpFault) → size ≡ old.log.size → to_come old contents ≡ with_first r (to_come new contents)
    → (e ≡ fault.OutOfMemory) ⊎ ((turn_at custom (bytes_of size) sel p r).outcome ≡ Err e) → IsOfReads e ⊎ EndsBy (left custom sel p old contents) e
turn_ends custom sel p old new contents size r e same is (inl memory) = inl (inr memory)
turn_ends custom sel p old new contents size r e same is (inr outcome) =
    let whole = whole_is custom sel p old new contents size r same is ∙ after_fault (turn_at custom (bytes_of size) sel p r) _ e outcome (fault_shows_nothing custom (bytes_of size) sel p r e outcome) in
    inr record { lines = ap (λ (d : Dump). d.lines) whole; answer = ap (λ (d : Dump). d.answer) whole }

-- the same of contents that stayed, and of the turn that was taken
pub gives_in : (custom : Option Extension) (sel : Selection) (p : Progress) (old new : CursorView) (turn taken : Turn) (contents later : Contents) (pending pending' : List ℕ) → later ≡ contents → taken ≡ turn
    → Gives (left custom sel p old later) pending (left_behind custom sel taken new later) pending' → Gives (left custom sel p old contents) pending (left_behind custom sel turn new contents) pending'
gives_in custom sel p old new turn taken contents later pending pending' same is gives =
    subst (λ (t : Turn). Gives (left custom sel p old contents) pending (left_behind custom sel t new contents) pending') is
    (subst (λ (k : Contents). Gives (left custom sel p old k) pending (left_behind custom sel taken new k) pending') same gives)

pub fault_in : (custom : Option Extension) (sel : Selection) (p : Progress) (old : CursorView) (contents later : Contents) (e : DumpFault) → later ≡ contents → IsOfReads e ⊎ EndsBy (left custom sel p old later) e → IsOfReads e ⊎ EndsBy (left custom sel p old contents) e
fault_in custom sel p old contents later e same fault = subst (λ (k : Contents). IsOfReads e ⊎ EndsBy (left custom sel p old k) e) same fault

pub further_in : (old new : CursorView) (next : Progress) (taken : Turn) → taken ≡ Goes next → GoesUp old new taken → IsFurther old new next
further_in old new next taken is up = subst (GoesUp old new) is up

-- what a cursor has to give at its place is the dump of the log from there
pub left_from : (custom : Option Extension) (sel : Selection) (cursor : CursorView) (contents : Contents) (log : LogPath) (place : ℕ) → cursor.log ≡ log → to_come cursor contents ≡ log_of (pages_of log contents) (bytes_of log.size) place
    → left custom sel nothing_shown cursor contents ≡ dump_from custom (pages_of log contents) (bytes_of log.size) sel (Some place)
left_from custom sel cursor contents log place log_is starts =
    let whole : Log = log_of (pages_of log contents) (bytes_of log.size) place in
    ap (walk_behind custom (bytes_of cursor.log.size) sel nothing_shown) starts
    ∙ ap (λ (l : LogPath). walk_behind custom (bytes_of l.size) sel nothing_shown whole) log_is
    ∙ walk_is custom (bytes_of log.size) sel whole

-- and that of the whole log, where this is its first place
pub from_first : (custom : Option Extension) (sel : Selection) (log : LogPath) (contents later : Contents) (found place : Option ℕ) → later ≡ contents → found ≡ first_place (pages_of log contents) (bytes_of log.size) (page_of sel.start.0) → found ≡ place
    → dump_from custom (pages_of log later) (bytes_of log.size) sel place ≡ dump_of custom (pages_of log contents) (bytes_of log.size) sel
from_first custom sel log contents later found place same is place_is =
    ap (λ (k : Contents). dump_from custom (pages_of log k) (bytes_of log.size) sel place) same
    ∙ ap (dump_from custom (pages_of log contents) (bytes_of log.size) sel) (sym place_is ∙ is)

pub ruleset advance_steps = (ends_there)
