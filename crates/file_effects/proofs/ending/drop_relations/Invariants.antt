use Rattle.std.proofs.Common.{◌≡◌, drop, IsTrue}
use Rattle.cluster_tree.specs.Frame.{Came}
use Rattle.file_edits.specs.Own.{OnOwn}
use Rattle.storage_replay.specs.Changes.{relation_dropped}
use Rattle.file_effects.specs.Done.{for_each}
use Rattle.file_effects.specs.Own.{is_replayed}
use Rattle.file_effects.specs.Touched.{SparesBlocks, is_among_dropped}
use Rattle.file_effects.proofs.ending.drop_relations.Given as goal

abbrev pub invariant-loop-place : goal.invariant-loop-place
invariant-loop-place g l = record {
  frame : Came g.F.Tree l.fn.tree l.tree;
  own : IsTrue g.F.Tree.tells → OnOwn g.F.Tree.calls (is_replayed l.at.root) l.fn.tree l.tree;
  spares : IsTrue g.F.Tree.tells → SparesBlocks g.F.Tree l.at.root l.at.per_file (is_among_dropped l.rels) l.fn.tree l.tree;
  meant : IsTrue g.F.Tree.tells → for_each (relation_dropped l.at.root) (drop l.place l.rels) (g.F.Tree.contents l.tree) ≡ for_each (relation_dropped l.at.root) l.rels (g.F.Tree.contents l.fn.tree);
}
