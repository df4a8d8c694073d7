-- Every change of a rewind that is meant is of the target.
use Rattle.std.proofs.Common.{◌++◌}
use Rattle.cluster_tree.specs.Contents.{Contents}
use Rattle.cluster_tree.specs.PathValue.{below}
use Rattle.cluster_tree.proofs.RootLemmas.{holds-below}
use Rattle.marked_runs.specs.Runs.{ended}
use Rattle.rewind_plan.specs.Planned.{steps_of}
use Rattle.rewind_plan.specs.Sides.{control_parts, label_parts, mark_parts}
use Rattle.rewind_writes.specs.Steps.{steps_changes}
use Rattle.rewind_core.specs.Planned.{Needing}
use Rattle.rewind_paths.specs.Laws.{AreOf}
use Rattle.rewind_paths.proofs.BelowLemmas.{all-in, at-none, at-path, both, laid-of, steps-of}
use Rattle.cmd_rewind.specs.Changes.{closing, needed_changes, needed_text}

pub needed-of : (seen c : Contents) (n : Needing) → AreOf n.aim.between.target (needed_changes seen c n)
needed-of seen c n =
    let root = n.aim.between.target in
    let mark = at-path root (below root mark_parts) (holds-below root mark_parts) in
    let label = at-path root (below root label_parts) (holds-below root label_parts) in
    let control = at-path root (below root control_parts) (holds-below root control_parts) in
    let steps = steps-of c root (steps_of n.aim.between n.pairs) (all-in n.aim.between n.pairs) in
    let body = both root (steps_changes c (steps_of n.aim.between n.pairs)) (closing n.aim) steps (label, (label, (control, tt))) in
    let laid = laid-of c root (below root mark_parts) (needed_text seen n) (holds-below root mark_parts) in
    both root _ (ended (below root mark_parts)) (both root _ (steps_changes c (steps_of n.aim.between n.pairs) ++ closing n.aim) laid body) (at-none root, (mark, (at-none root, tt)))
