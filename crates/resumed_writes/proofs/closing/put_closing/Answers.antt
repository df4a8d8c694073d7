use Rattle.std.proofs.Common.{[], ◌∷◌}
use Rattle.cluster_tree.specs.Change.{Writes}
use Rattle.rewind_writes.specs.Steps.{opened}
use Rattle.resumed_writes.proofs.TriedLemmas.{tried-front, tried-then}
use Rattle.resumed_writes.proofs.closing.put_closing.Goals as goal

pub returns-in-Ok-clause-tries : goal.returns-in-Ok-clause-tries
returns-in-Ok-clause-tries g c =
    tried-then g.F.Tree (opened (g.F.Tree.contents c.args.tree.now) c.args.label.path ∷ Writes c.args.label.path 0 c.args.label.bytes.items ∷ []) (Writes c.args.control.path 0 c.args.control.bytes.items ∷ []) _ _ _ _ _
    c.in-Ok.ensures.tries c.put_over.ensures.tries

pub returns-in-Err-clause-tries : goal.returns-in-Err-clause-tries
returns-in-Err-clause-tries g c =
    tried-front g.F.Tree (opened (g.F.Tree.contents c.args.tree.now) c.args.label.path ∷ Writes c.args.label.path 0 c.args.label.bytes.items ∷ []) (Writes c.args.control.path 0 c.args.control.bytes.items ∷ []) _ _ c.in-Err.fault
    c.in-Err.ensures.tries
