use Rattle.std.proofs.Common.{[], ◌∷◌, ap, Err}
use Rattle.cluster_tree.specs.Change.{MakesFile, Writes}
use Rattle.marked_runs.proofs.CarriedLemmas.{performs-broken, performs-done}
use Rattle.rewind_writes.proofs.StepLemmas.{performs-same}
use Rattle.rewind_writes.proofs.plan.put_new.Goals as goal

pub returns-in-Ok-clause-performs : goal.returns-in-Ok-clause-performs
returns-in-Ok-clause-performs g c =
    performs-same g.F.Tree _ _ _ _ _ (ap (λ b. MakesFile c.args.file.path ∷ Writes c.args.file.path 0 b ∷ []) c.deref.ensures.value)
    (performs-done g.F.Tree (MakesFile c.args.file.path ∷ Writes c.args.file.path 0 c.deref.result.now ∷ []) _ _ _ c.in-Ok.ensures.carries)

pub returns-in-Err-clause-performs : goal.returns-in-Err-clause-performs
returns-in-Err-clause-performs g c =
    performs-same g.F.Tree _ _ _ _ _ (ap (λ b. MakesFile c.args.file.path ∷ Writes c.args.file.path 0 b ∷ []) c.deref.ensures.value)
    (performs-broken g.F.Tree (MakesFile c.args.file.path ∷ Writes c.args.file.path 0 c.deref.result.now ∷ []) _ _ c.in-Err.fault c.args.file.path _ (ap Err c.about.ensures) c.in-Err.ensures.carries)
