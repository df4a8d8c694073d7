use Rattle.std.proofs.Common.{◌∷◌, ap}
use Rattle.cluster_tree.specs.Change.{Writes}
use Rattle.control_file.specs.Writing.{control_bytes}
use Rattle.reset_plan.specs.Plan.{files_changes}
use Rattle.reset_plan.proofs.plan.body_of.Goals as goal

pub returns-clause-changes : goal.returns-clause-changes
returns-clause-changes c = ap (λ p. Writes p 0 (control_bytes c.args.control) ∷ files_changes c.args.files) c.in-Ok.ensures.is
