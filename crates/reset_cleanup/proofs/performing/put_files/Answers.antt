use Rattle.std.proofs.Common.{[], ◌∷◌, ap, map}
use Rattle.cluster_tree.specs.Change.{MakesFile, Removes, Writes}
use Rattle.wal_records.specs.Writer.{in_pages}
use Rattle.reset_plan.specs.Plan.{padded}
use Rattle.marked_runs.proofs.CarriedLemmas.{performs-front, performs-then}
use Rattle.reset_cleanup.proofs.PerformLemmas.{performs-same}
use Rattle.reset_cleanup.proofs.performing.put_files.Goals as goal

pub returns-in-Ok-clause-performs : goal.returns-in-Ok-clause-performs
returns-in-Ok-clause-performs g c = performs-then g.F.Tree (map Removes c.args.files.gone.items) (MakesFile c.args.files.path ∷ Writes c.args.files.path 0 (padded (in_pages c.args.files.page.bytes) c.args.files.size) ∷ []) _ _ _ _ _ c.in-Ok.ensures.performs
    (performs-same g.F.Tree _ _ _ _ _ (ap (λ b. MakesFile c.args.files.path ∷ Writes c.args.files.path 0 (padded b c.args.files.size) ∷ []) c.bytes.ensures.value) c.put_segment.ensures.performs)

pub returns-in-Err-clause-performs : goal.returns-in-Err-clause-performs
returns-in-Err-clause-performs g c = performs-front g.F.Tree (map Removes c.args.files.gone.items) (MakesFile c.args.files.path ∷ Writes c.args.files.path 0 (padded (in_pages c.args.files.page.bytes) c.args.files.size) ∷ []) _ _ c.in-Err.fault c.in-Err.ensures.performs
