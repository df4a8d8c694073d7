use Rattle.std.proofs.Common.{[], ◌∷◌}
use Rattle.cluster_tree.specs.Change.{Writes}
use Rattle.control_file.specs.Writing.{control_bytes}
use Rattle.reset_plan.specs.Plan.{files_changes}
use Rattle.marked_runs.proofs.CarriedLemmas.{performs-front, performs-then}
use Rattle.reset_cleanup.proofs.performing.put_body.Goals as goal

pub returns-in-Ok-clause-performs : goal.returns-in-Ok-clause-performs
returns-in-Ok-clause-performs g c = performs-then g.F.Tree (Writes c.args.body.path 0 (control_bytes c.args.body.control) ∷ []) (files_changes c.args.body.files) _ _ _ _ _ c.in-Ok.ensures.performs c.put_files.ensures.performs

pub returns-in-Err-clause-performs : goal.returns-in-Err-clause-performs
returns-in-Err-clause-performs g c = performs-front g.F.Tree (Writes c.args.body.path 0 (control_bytes c.args.body.control) ∷ []) (files_changes c.args.body.files) _ _ c.in-Err.fault c.in-Err.ensures.performs
