use Rattle.std.proofs.Common.{◌≤◌, ◌-◌, drop, length}
use Rattle.cluster_tree.specs.Frame.{Came}
use Rattle.pair_maker.proofs.PutLemmas.{Reaches}
use Rattle.pair_maker.proofs.putting.write_rest.Given as goal

abbrev pub invariant-loop-done : goal.invariant-loop-done
invariant-loop-done g l = record {
  within : l.done ≤ length l.bytes;
  reaches : Reaches g.F.Tree l.path l.from (drop l.from l.bytes) l.fn.tree l.done (drop l.done l.bytes) l.tree;
  came : Came g.F.Tree l.fn.tree l.tree;
}

abbrev pub decreases-loop-done : goal.decreases-loop-done
decreases-loop-done g l = length l.bytes - l.done
