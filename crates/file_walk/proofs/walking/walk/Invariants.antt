use Rattle.std.proofs.Common.{IsTrue, string_bytes}
use Rattle.cluster_tree.specs.Frame.{Reads}
use Rattle.file_walk.specs.Listed.{AreListed, by_text, entries_in}
use Rattle.file_walk.specs.Waiting.{AllSound}
use Rattle.file_walk.proofs.ProgressLemmas.{Progress}
use Rattle.file_walk.proofs.walking.walk.Given as goal

abbrev pub invariant-loop : goal.invariant-loop
invariant-loop g l = record {
  progress : IsTrue g.F.Tree.tells → Progress (g.F.Tree.contents l.fn.tree) l.root (entries_in l.listed.items) (by_text string_bytes l.queue.entries);
  sound : AllSound (by_text string_bytes l.queue.entries);
  listed : AreListed l.listed.items;
  reads : Reads g.F.Tree l.fn.tree l.tree;
}
