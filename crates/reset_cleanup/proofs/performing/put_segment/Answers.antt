use Rattle.std.proofs.Common.{[], ◌∷◌, ◌++◌, ap, replicate, Err}
use Rattle.cluster_tree.specs.Change.{MakesFile, Writes}
use Rattle.marked_runs.proofs.CarriedLemmas.{performs-broken, performs-done}
use Rattle.reset_cleanup.proofs.PerformLemmas.{performs-same}
use Rattle.reset_cleanup.proofs.performing.put_segment.Goals as goal

pub returns-in-Ok-clause-performs : goal.returns-in-Ok-clause-performs
returns-in-Ok-clause-performs g c =
    performs-same g.F.Tree _ _ _ _ _ (ap (λ n. MakesFile c.args.path ∷ Writes c.args.path 0 (c.args.page.now ++ replicate n 0) ∷ []) c.zeros_behind-zeros.ensures)
    (performs-done g.F.Tree (MakesFile c.args.path ∷ Writes c.args.path 0 (c.args.page.now ++ replicate c.zeros_behind-zeros.result 0) ∷ []) _ _ _ c.in-Ok.ensures.carries)

pub returns-in-Err-clause-performs : goal.returns-in-Err-clause-performs
returns-in-Err-clause-performs g c =
    performs-same g.F.Tree _ _ _ _ _ (ap (λ n. MakesFile c.args.path ∷ Writes c.args.path 0 (c.args.page.now ++ replicate n 0) ∷ []) c.zeros_behind-zeros.ensures)
    (performs-broken g.F.Tree (MakesFile c.args.path ∷ Writes c.args.path 0 (c.args.page.now ++ replicate c.zeros_behind-zeros.result 0) ∷ []) _ _ c.in-Err.fault c.args.path _ (ap Err c.about.ensures) c.in-Err.ensures.carries)
