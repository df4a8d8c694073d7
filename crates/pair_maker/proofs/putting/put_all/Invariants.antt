use Rattle.std.proofs.Common.{length, map}
use Rattle.cluster_tree.specs.Frame.{Came}
use Rattle.pair_maker.specs.Entries.{standing_of}
use Rattle.pair_maker.proofs.PutLemmas.{Goes}
use Rattle.pair_maker.proofs.putting.put_all.Given as goal

abbrev pub invariant-loop-placed : goal.invariant-loop-placed
invariant-loop-placed g l = record {
  goes : Goes g.F.Tree (map standing_of l.fn.entries.items) l.fn.tree (map standing_of l.entries.items) l.tree;
  came : Came g.F.Tree l.fn.tree l.tree;
}

abbrev pub decreases-loop-placed : goal.decreases-loop-placed
decreases-loop-placed g l = length l.entries.items
