use Rattle.std.proofs.Common.{[], ◌∷◌}
use Rattle.cluster_tree.specs.Change.{Cuts, MakesFile}
use Rattle.resumed_writes.proofs.AgainLemmas.{found-not, found-so, opened-new, opened-there}
use Rattle.resumed_writes.proofs.TriedLemmas.{target-broken, tried-read, tried-same}
use Rattle.resumed_writes.proofs.changing.open_again.Goals as goal

pub returns-in-Ok-true-clause-tries : goal.returns-in-Ok-true-clause-tries
returns-in-Ok-true-clause-tries g c =
    tried-same g.F.Tree (Cuts c.args.path.now 0 ∷ []) _ _ _ _ (λ told. opened-there (g.F.Tree.contents c.args.tree.now) c.args.path.now (found-so c.in-Ok-true.field-0 c.in-Ok-true.field-0-test (c.in-Ok-true.ensures.answer told)))
    (tried-read g.F.Tree (Cuts c.args.path.now 0 ∷ []) _ _ _ _ c.in-Ok-true.ensures.frame c.cut_file.ensures.tries)

pub returns-in-Ok-false-clause-tries : goal.returns-in-Ok-false-clause-tries
returns-in-Ok-false-clause-tries g c =
    tried-same g.F.Tree (MakesFile c.args.path.now ∷ []) _ _ _ _ (λ told. opened-new (g.F.Tree.contents c.args.tree.now) c.args.path.now (found-not c.in-Ok-false.field-0 c.in-Ok-false.field-0-test (c.in-Ok-false.ensures.answer told)))
    (tried-read g.F.Tree (MakesFile c.args.path.now ∷ []) _ _ _ _ c.in-Ok-false.ensures.frame c.make_file.ensures.tries)

pub returns-in-Err-clause-tries : goal.returns-in-Err-clause-tries
returns-in-Err-clause-tries g c = target-broken g.F.Tree c.args.path.now _ _ _ c.in-Err.fault c.in-Err.ensures.frame c.in-Err.ensures.only
