use Rattle.rewind_core.proofs.SumLemmas.{found-whole, sum-is}
use Rattle.rewind_core.proofs.sums.sum_at.Goals as goal

pub sum_in-requires : goal.sum_in-requires
sum_in-requires g c = record { whole = λ told. found-whole (g.F.Tree.contents c.args.tree.now) c.args.root.now _ c.in-Ok.ensures.is (c.requires.rooted told) }

pub returns-in-Ok-clause-value : goal.returns-in-Ok-clause-value
returns-in-Ok-clause-value g c told = sum-is (g.F.Tree.contents c.args.tree.now) c.args.root.now _ c.in-Ok.ensures.is (c.requires.rooted told) _ (c.sum_in.ensures.value told)
