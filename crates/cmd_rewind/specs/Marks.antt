-- What a rewind sees of the contents, by what it makes of its own mark. Own: "A rewind that is begun anew".
use Rattle.cluster_tree.specs.Contents.{Contents}
use Rattle.cluster_tree.specs.Marks.{marks_of}
use Rattle.cluster_tree.specs.PathValue.{PathValue}
use Rattle.cluster_tree.specs.Tree.{bytes_at}
use Rattle.gated_marks.specs.Gates.{IsComplete}
use Rattle.rewind_core.specs.Over.{without_own}
use Rattle.rewind_writes.specs.Plan.{mark_gate, mark_head}
use Rattle.cmd_rewind.specs.declared.marks.OwnMark.{OwnMark}
use Rattle.cmd_rewind.specs.declared.marks.OwnMark.TheVariants as own

-- all of them, or all but the mark that it passes over
abbrev pub seen_by : OwnMark → (target : PathValue) → Contents → Contents
seen_by own.Refused target c = c
seen_by own.PassedOver target c = without_own c target

-- a mark that is passed over isn't whole
abbrev pub IsPassable : OwnMark → (target : PathValue) → Contents → Type 0
IsPassable own.Refused target c = Unit {0}
IsPassable own.PassedOver target c = IsComplete mark_head mark_gate (bytes_at c (marks_of target).rewind) → ⊥
