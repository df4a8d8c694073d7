use Rattle.wal_records.specs.Writer.{in_pages}
use Rattle.reset_plan.specs.Plan.{padded}
use Rattle.reset_plan.proofs.ReadyLemmas.{files-made, segment-padded}
use Rattle.reset_plan.proofs.plan.files_of.Goals as goal

pub returns-clause-changes : goal.returns-clause-changes
returns-clause-changes c =
    files-made c.args.wal.now c.in_ok-path.path c.args.gone.items c.args.control.now c.args.segment (padded (in_pages c.in_ok-page.page.bytes) c.bytes-size.result) c.in_ok-path.ensures.is
    (segment-padded c.args.control.now c.args.segment c.in_ok-page.page c.bytes-size.result c.in_ok-page.ensures.page c.bytes-size.ensures.value)
