use Rattle.std.proofs.Common.{[], ◌∷◌}
use Rattle.cluster_tree.specs.Change.{Removes}
use Rattle.resumed_writes.proofs.AgainLemmas.{gone-again, gone-now, found-not, found-so}
use Rattle.resumed_writes.proofs.TriedLemmas.{look-nothing, target-broken, tried-read, tried-same}
use Rattle.resumed_writes.proofs.changing.remove_present.Goals as goal

pub returns-in-Ok-true-clause-tries : goal.returns-in-Ok-true-clause-tries
returns-in-Ok-true-clause-tries g c =
    tried-same g.F.Tree [] _ _ _ _ (λ told. gone-again (g.F.Tree.contents c.args.tree.now) c.args.path.now (found-so c.in-Ok-true.field-0 c.in-Ok-true.field-0-test (c.in-Ok-true.ensures.answer told))) (look-nothing g.F.Tree _ _ _ c.in-Ok-true.ensures.frame)

pub returns-in-Ok-false-clause-tries : goal.returns-in-Ok-false-clause-tries
returns-in-Ok-false-clause-tries g c =
    tried-same g.F.Tree (Removes c.args.path.now ∷ []) _ _ _ _ (λ told. gone-now (g.F.Tree.contents c.args.tree.now) c.args.path.now (found-not c.in-Ok-false.field-0 c.in-Ok-false.field-0-test (c.in-Ok-false.ensures.answer told)))
    (tried-read g.F.Tree (Removes c.args.path.now ∷ []) _ _ _ _ c.in-Ok-false.ensures.frame c.remove_entry.ensures.tries)

pub returns-in-Err-clause-tries : goal.returns-in-Err-clause-tries
returns-in-Err-clause-tries g c = target-broken g.F.Tree c.args.path.now _ _ _ c.in-Err.fault c.in-Err.ensures.frame c.in-Err.ensures.only
