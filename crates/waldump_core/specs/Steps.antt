-- What one step of a dump gives of what is still to be shown.
use Rattle.std.specs.Prelude.{ℕ, ◌≡◌, ◌+◌, ◌<◌, ◌≤◌, ◌^◌, ◌++◌, List, [], Option, None, Ok, Err}
use Rattle.acts.specs.Texts.{texts_of}
use Rattle.cluster_tree.specs.Contents.{Contents}
use Rattle.wal_base.specs.Segment.{bytes_of}
use Rattle.wal_records.specs.Cursor.{CursorView, to_come}
use Rattle.rmgr_hooks.specs.Custom.{Extension}
use Rattle.waldump_core.specs.declared.fault.DumpFault.{DumpFault}
use Rattle.waldump_core.specs.declared.progress.Progress.{Progress}
use Rattle.waldump_core.specs.declared.progress.Turn.{Turn}
use Rattle.waldump_core.specs.declared.progress.Turn.TheVariants.{Goes, Stops}
use Rattle.waldump_core.specs.declared.selection.Selection.{Selection}
use Rattle.waldump_core.specs.Dump.{Dump}
use Rattle.waldump_core.specs.Walk.{answered, walk_behind}

-- the dump of the log that a cursor has still to give, behind this progress
abbrev pub left : Option Extension → Selection → Progress → CursorView → Contents → Dump
left custom sel progress cursor contents = walk_behind custom (bytes_of cursor.log.size) sel progress (to_come cursor contents)

-- what is left of a dump behind a turn
abbrev pub left_behind : Option Extension → Selection → Turn → CursorView → Contents → Dump
left_behind custom sel (Goes progress) cursor contents = left custom sel progress cursor contents
left_behind custom sel (Stops dumped) cursor contents = answered (Ok dumped)

-- A step of a dump: the first of the lines that were left are pending now, behind those that were; the others are still left, and the
-- answer stays.
pub record Gives (old : Dump) (pending : List ℕ) (new : Dump) (pending' : List ℕ) : Type 0 where
  pub added : List (List ℕ)
  pub lines : old.lines ≡ added ++ new.lines
  pub answer : old.answer ≡ new.answer
  pub text : pending' ≡ pending ++ texts_of added

-- a dump is at its end, and refused so
pub record EndsBy (dump : Dump) (e : DumpFault) : Type 0 where
  pub lines : dump.lines ≡ []
  pub answer : dump.answer ≡ Err e

-- behind a record that a dump goes on from, the cursor stands further on, and hasn't ended, and no more records were shown than
-- positions passed
pub record IsFurther (old new : CursorView) (progress : Progress) : Type 0 where
  pub opened : new.ended ≡ None
  pub up : old.place + 24 ≤ new.place
  pub within : new.place < 2 ^ 64
  pub few : progress.shown ≤ new.place

abbrev pub GoesUp : CursorView → CursorView → Turn → Type 0
GoesUp old new (Goes progress) = IsFurther old new progress
GoesUp old new (Stops dumped) = Unit {0}

-- of one record one more is shown at most
abbrev pub CountsOn : Progress → Turn → Type 0
CountsOn old (Goes progress) = progress.shown ≤ old.shown + 1
CountsOn old (Stops dumped) = Unit {0}
