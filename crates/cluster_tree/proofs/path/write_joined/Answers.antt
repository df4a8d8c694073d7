use Rattle.std.proofs.Common.{rules}
use Rattle.std.proofs.Output.{has_written_append, has_written_of_eq}
use Rattle.cluster_tree.proofs.TextLemmas.{joined-next}
use Rattle.cluster_tree.proofs.path.write_joined.Goals as goal

pub loop-part-preserved : goal.loop-part-preserved
loop-part-preserved g c = λ p.
    has_written_of_eq _ _ _ _ _
    (joined-next c.args.first.now c.args.rest.now c.loop-part.part-index c.part-item.result c.loop-part-test.true)
    (has_written_append _ _ _ _ _ _ (c.loop-part.invariant p) (rw (← c.part-item.is) (search rules)))
