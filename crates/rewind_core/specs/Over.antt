-- A rewind that is carried out where its own mark may stand, not whole. Own: "A rewind that is begun anew".
use Rattle.std.specs.Prelude.{◌≡◌}
use Rattle.cluster_tree.specs.Contents.{Contents}
use Rattle.cluster_tree.specs.Marks.{marks_of}
use Rattle.cluster_tree.specs.PathValue.{PathValue}
use Rattle.cluster_tree.specs.Tree.{bytes_at}
use Rattle.gated_marks.specs.Gates.{IsComplete}
use Rattle.rewind_core.specs.Fits.{IsPlanFor}
use Rattle.rewind_core.specs.Planned.{Needing}
use Rattle.rewind_core.specs.declared.outcome.Plan.{Plan}
use Rattle.rewind_writes.specs.Plan.{mark_gate, mark_head}
use Rattle.without_file.specs.Without.{without_file}

-- what is seen without the file at the mark of a rewind of this target
abbrev pub without_own : Contents → (target : PathValue) → Contents
without_own c target = without_file c (marks_of target).rewind

-- A plan for what is seen of these contents: all but the file at the mark, which isn't whole. Where no file stands there, that is all of them.
pub record IsPlanOver (seen c : Contents) (n : Needing) (plan : Plan) : Type 0 where
  pub for : IsPlanFor seen n plan
  pub without : seen ≡ without_file c plan.writes.mark
  pub incomplete : IsComplete mark_head mark_gate (bytes_at c plan.writes.mark) → ⊥
