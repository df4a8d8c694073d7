-- A dump goes record by record: what it does at each, behind what it has shown so far. That this gives the dump of the whole list
-- is a lemma (proofs/WalkLemmas.antt).
use Rattle.std.specs.Prelude.{ℕ, ◌+◌, ◌==◌, Bool, true, false, List, [], ◌∷◌, ◌++◌, nat_lt, if◌then◌else◌, Option, None, Some, Result, Ok, Err}
use Rattle.wal_base.specs.declared.lsn.Lsn.{Lsn}
use Rattle.wal_records.specs.declared.why.Why.{Why}
use Rattle.wal_records.specs.Log.{Log}
use Rattle.wal_records.specs.Reading.{LogRecord}
use Rattle.block_refs.specs.declared.fault.PartsFault.{PartsFault}
use Rattle.block_refs.specs.Outcomes.{record_parts}
use Rattle.block_refs.specs.Parts.{PartsView}
use Rattle.rmgr_hooks.specs.Custom.{Extension}
use Rattle.waldump_core.specs.declared.dumped.Dumped.{Dumped}
use Rattle.waldump_core.specs.declared.fault.DumpFault.{DumpFault}
use Rattle.waldump_core.specs.declared.fault.DumpFault.TheVariants as fault
use Rattle.waldump_core.specs.declared.progress.Progress.{Progress}
use Rattle.waldump_core.specs.declared.progress.Turn.{Turn}
use Rattle.waldump_core.specs.declared.progress.Turn.TheVariants.{Goes, Stops}
use Rattle.waldump_core.specs.declared.selection.Selection.{Selection}
use Rattle.waldump_core.specs.Dump.{Dump, at_lsn, is_before}
use Rattle.waldump_core.specs.Faults.{parts_cause}
use Rattle.waldump_core.specs.Line.{line_text}
use Rattle.waldump_core.specs.Selecting.{meets}

abbrev pub answered : Result Dumped DumpFault → Dump
answered answer = record { lines = []; answer = answer }

-- some lines, and then a dump
abbrev pub with_lines : List (List ℕ) → Dump → Dump
with_lines lines dump = record { lines = lines ++ dump.lines; answer = dump.answer }

-- what a record shows, and how it goes on behind it
pub record Shown : Type 0 where
  pub lines : List (List ℕ)
  pub outcome : Result Turn DumpFault

abbrev pub shows_nothing : Result Turn DumpFault → Shown
shows_nothing outcome = record { lines = []; outcome = outcome }

-- before any record
abbrev pub nothing_shown : Progress
nothing_shown = record { shown = 0; end = None }

abbrev pub dumped : ℕ → Lsn → Dumped
dumped shown end = record { shown = shown; end = end }

-- at the stop, behind the last record that was walked, or behind none
abbrev pub at_stop : Lsn → ℕ → Option Lsn → Result Turn DumpFault
at_stop start shown None = Err (fault.NoRecordAt start)
at_stop start shown (Some end) = Ok (Stops (dumped shown end))

-- where the log ends
abbrev pub at_end : Lsn → Option Lsn → ℕ → Why → DumpFault
at_end start None place why = fault.NoRecordAt start
at_end start (Some end) place why = fault.LogEnds (at_lsn place) why

-- behind a record that wasn't shown, and behind one that was: a limit of 0 is none
abbrev pub behind_passed : ℕ → Lsn → Turn
behind_passed shown end = Goes record { shown = shown; end = Some end }

abbrev pub behind_shown : ℕ → ℕ → Lsn → Turn
behind_shown limit shown end = if shown == limit then Stops (dumped shown end) else Goes record { shown = shown; end = Some end }

-- what a record that is selected shows
abbrev pub shown_of : Option Extension → Selection → LogRecord → PartsView → List (List ℕ)
shown_of custom sel r parts = if sel.quiet then [] else line_text custom sel.details r parts ∷ []

-- a record with these parts
abbrev pub selected_turn : Option Extension → Selection → ℕ → LogRecord → PartsView → Bool → Shown
selected_turn custom sel shown r parts true = record { lines = shown_of custom sel r parts; outcome = Ok (behind_shown sel.limit (shown + 1) (at_lsn r.end)) }
selected_turn custom sel shown r parts false = shows_nothing (Ok (behind_passed shown (at_lsn r.end)))

-- a record with parts, or with none
abbrev pub read_turn : Option Extension → Selection → ℕ → LogRecord → Result PartsView PartsFault → Shown
read_turn custom sel shown r (Err e) = shows_nothing (Err (parts_cause e))
read_turn custom sel shown r (Ok parts) = selected_turn custom sel shown r parts (meets sel r parts)

-- A record behind this progress: it is passed over where it starts below the start, all ends where it doesn't lie before the stop,
-- and else it is read.
unfoldable pub turn_at : Option Extension → ℕ → Selection → Progress → LogRecord → Shown
turn_at custom size sel progress r =
    if nat_lt r.start sel.start.0 then shows_nothing (Ok (Goes progress))
    else if is_before size sel.stop r then read_turn custom sel progress.shown r (record_parts r)
    else shows_nothing (at_stop sel.start progress.shown progress.end)

abbrev pub after_turn : Result Turn DumpFault → (Progress → Dump) → Dump
after_turn (Err e) rest = answered (Err e)
after_turn (Ok (Stops dumped)) rest = answered (Ok dumped)
after_turn (Ok (Goes progress)) rest = rest progress

abbrev pub after : Shown → (Progress → Dump) → Dump
after shown rest = with_lines shown.lines (after_turn shown.outcome rest)

-- the dump of records behind this progress, where the log then ends at a place
unfoldable pub walk_over : Option Extension → ℕ → Selection → ℕ → Why → List LogRecord → Progress → Dump
walk_over custom size sel place why [] progress = answered (Err (at_end sel.start progress.end place why))
walk_over custom size sel place why (r ∷ rest) progress = after (turn_at custom size sel progress r) (walk_over custom size sel place why rest)

-- the dump of what is left of a log behind this progress
abbrev pub walk_behind : Option Extension → ℕ → Selection → Progress → Log → Dump
walk_behind custom size sel progress log = walk_over custom size sel log.place log.why log.records progress
