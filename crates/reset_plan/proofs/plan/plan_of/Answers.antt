use Rattle.std.proofs.Common.{refl}
use Rattle.reset_plan.specs.Plan.{body_changes, files_changes}
use Rattle.reset_plan.proofs.ReadyLemmas.{all-made}
use Rattle.reset_plan.proofs.plan.plan_of.Goals as goal

pub returns-clause-changes : goal.returns-clause-changes
returns-clause-changes c = all-made c.args.root.now c.args.wal.now c.in_ok-mark.mark c.args.gone.items c.args.gone.items c.args.control c.args.segment (files_changes c.in_ok-files.files) (body_changes c.in_ok-body.body) c.requires.wal c.in_ok-mark.ensures.is refl c.in_ok-files.ensures.changes c.in_ok-body.ensures.changes
