use Rattle.std.proofs.Common.{[], ◌∷◌}
use Rattle.cluster_tree.specs.Change.{Removes, Writes}
use Rattle.control_file.specs.Writing.{control_bytes}
use Rattle.marked_runs.proofs.CarriedLemmas.{performs-front, performs-then}
use Rattle.replay_core.proofs.closing.put_files.Goals as goal

pub returns-in-Ok-clause-performs : goal.returns-in-Ok-clause-performs
returns-in-Ok-clause-performs g c =
    performs-then g.F.Tree (Writes c.args.path 0 (control_bytes c.args.control.now) ∷ []) (Removes c.args.label ∷ []) _ _ _ _ _ c.in-Ok.ensures.performs c.drop_label.ensures.performs

pub returns-in-Err-clause-performs : goal.returns-in-Err-clause-performs
returns-in-Err-clause-performs g c =
    performs-front g.F.Tree (Writes c.args.path 0 (control_bytes c.args.control.now) ∷ []) (Removes c.args.label ∷ []) _ _ c.in-Err.fault c.in-Err.ensures.performs
