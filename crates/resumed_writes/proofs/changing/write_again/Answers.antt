use Rattle.std.proofs.Common.{[], ◌∷◌}
use Rattle.cluster_tree.specs.Change.{Writes}
use Rattle.rewind_writes.specs.Steps.{opened}
use Rattle.resumed_writes.proofs.TriedLemmas.{target-front, tried-then}
use Rattle.resumed_writes.proofs.changing.write_again.Goals as goal

pub returns-in-Ok-clause-tries : goal.returns-in-Ok-clause-tries
returns-in-Ok-clause-tries g c =
    tried-then g.F.Tree (opened (g.F.Tree.contents c.args.tree.now) c.args.path.now ∷ []) (Writes c.args.path.now 0 c.args.bytes.now ∷ []) _ _ _ _ _ c.in-Ok.ensures.tries c.overwrite.ensures.tries

pub returns-in-Err-clause-tries : goal.returns-in-Err-clause-tries
returns-in-Err-clause-tries g c =
    target-front g.F.Tree c.args.path.now (opened (g.F.Tree.contents c.args.tree.now) c.args.path.now ∷ []) (Writes c.args.path.now 0 c.args.bytes.now ∷ []) _ _ c.in-Err.fault c.in-Err.ensures.tries
