-- The changes of a rewind, in the order of writes: PostgreSQL 16, src/bin/pg_rewind/pg_rewind.c, perform_rewind. Own: "The plan of a rewind".
use Rattle.std.specs.Prelude.{ℕ, List, [], ◌∷◌, ◌++◌}
use Rattle.cluster_tree.specs.Change.{Change, MakesFile, Writes}
use Rattle.cluster_tree.specs.Contents.{Contents}
use Rattle.cluster_tree.specs.PathValue.{below}
use Rattle.gated_marks.specs.Changes.{gated}
use Rattle.plan_text.specs.Text.{plan_text}
use Rattle.control_file.specs.Writing.{control_bytes}
use Rattle.backup_label.specs.Text.{label_text}
use Rattle.rewind_writes.specs.Plan.{mark_gate, mark_head}
use Rattle.rewind_writes.specs.Steps.{steps_changes}
use Rattle.rewind_plan.specs.Planned.{steps_of}
use Rattle.rewind_plan.specs.Sides.{control_parts, label_parts, mark_parts}
use Rattle.rewind_core.specs.Planned.{Aim, Needing}
use Rattle.rewind_core.specs.Text.{sum_at}

-- last of all the label is made, and the control file written over
abbrev pub closing : Aim → List Change
closing aim =
    MakesFile (below aim.between.target label_parts)
    ∷ Writes (below aim.between.target label_parts) 0 (label_text aim.label)
    ∷ Writes (below aim.between.target control_parts) 0 (control_bytes aim.control) ∷ []

-- what the mark holds: the plan as text, with the CRC in the source's control file
abbrev pub needed_text : (seen : Contents) → Needing → List ℕ
needed_text seen n = plan_text n.aim.between.target record {
  source = sum_at seen n.aim.between.source;
  told = n.aim.told;
  steps = steps_of n.aim.between n.pairs;
  label = label_text n.aim.label;
  control = control_bytes n.aim.control;
}

-- Under the mark the folders, files and removals of the paths side by side, and then that. What is needed is so of what is seen; the changes are
-- of these contents, by which a mark is made or the one that stands there is cut to nothing.
abbrev pub needed_changes : (seen c : Contents) → Needing → List Change
needed_changes seen c n =
    gated c (below n.aim.between.target mark_parts) mark_head mark_gate (needed_text seen n)
    (steps_changes c (steps_of n.aim.between n.pairs) ++ closing n.aim)
