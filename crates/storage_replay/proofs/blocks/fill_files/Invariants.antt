use Rattle.std.proofs.Common.{◌≡◌, ◌-◌, IsTrue}
use Rattle.cluster_tree.specs.Frame.{Came}
use Rattle.file_edits.specs.Own.{OnOwn}
use Rattle.file_edits.specs.Sparing.{Piece, Spares}
use Rattle.storage_replay.specs.Blocks.{files_filled}
use Rattle.storage_replay.specs.Files.{is_of_relation}
use Rattle.storage_replay.specs.Sparing.{EndsABlock}
use Rattle.storage_replay.proofs.blocks.fill_files.Given as goal

abbrev pub invariant-loop-file : goal.invariant-loop-file
invariant-loop-file g l = record {
  frame : Came g.F.Tree l.fn.tree l.tree;
  own : IsTrue g.F.Tree.tells → OnOwn g.F.Tree.calls (is_of_relation l.at.root l.rel) l.fn.tree l.tree;
  spares : IsTrue g.F.Tree.tells → (piece : Piece) → EndsABlock piece → Spares g.F.Tree piece l.fn.tree l.tree;
  meant : IsTrue g.F.Tree.tells → files_filled l.at.root l.at.per_file l.rel l.fork (l.files - l.file) l.file (g.F.Tree.contents l.tree) ≡ files_filled l.at.root l.at.per_file l.rel l.fork l.files 0 (g.F.Tree.contents l.fn.tree);
}
