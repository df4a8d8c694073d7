use Rattle.std.proofs.Common.{◌≡◌, ◌-◌, IsTrue}
use Rattle.cluster_tree.specs.Frame.{Reads}
use Rattle.storage_replay.specs.Lengths.{counted, file_size}
use Rattle.storage_replay.proofs.lengths.counted.Given as goal

abbrev pub invariant-loop-file : goal.invariant-loop-file
invariant-loop-file g l = record {
  frame : Reads g.F.Tree l.fn.tree l.tree;
  meant : IsTrue g.F.Tree.tells → counted (file_size l.at.root l.rel l.fork (g.F.Tree.contents l.fn.tree)) l.at.per_file (l.files - l.file) l.file ≡ counted (file_size l.at.root l.rel l.fork (g.F.Tree.contents l.fn.tree)) l.at.per_file l.files 0;
}
