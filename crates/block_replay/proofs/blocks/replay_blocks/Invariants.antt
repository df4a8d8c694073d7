use Rattle.std.proofs.Common.{◌≡◌, drop, IsTrue}
use Rattle.rmgr_hooks.specs.Custom.{handed_in}
use Rattle.cluster_tree.specs.Frame.{Came}
use Rattle.file_edits.specs.Own.{OnOwn}
use Rattle.file_effects.specs.Own.{is_replayed}
use Rattle.file_effects.specs.Touched.{SparesBlocks}
use Rattle.block_replay.specs.Touched.{writes_block}
use Rattle.block_replay.specs.Blocks.{each_after}
use Rattle.block_replay.proofs.blocks.replay_blocks.Given as goal

abbrev pub invariant-loop-index : goal.invariant-loop-index
invariant-loop-index g l = record {
  frame : Came g.F.Tree l.fn.tree l.tree;
  own : IsTrue g.F.Tree.tells → OnOwn g.F.Tree.calls (is_replayed l.at.root) l.fn.tree l.tree;
  spares : IsTrue g.F.Tree.tells → SparesBlocks g.F.Tree l.at.root l.at.per_file (writes_block (handed_in g.M.Manager l.custom) l.rec l.parts) l.fn.tree l.tree;
  meant : IsTrue g.F.Tree.tells → each_after (handed_in g.M.Manager l.custom) l.at.root l.at.per_file l.rec l.parts (drop l.index l.parts.blocks) (record { files = g.F.Tree.contents l.tree; skipped = l.skipped }) ≡ each_after (handed_in g.M.Manager l.custom) l.at.root l.at.per_file l.rec l.parts l.parts.blocks (record { files = g.F.Tree.contents l.fn.tree; skipped = l.fn.skipped });
}
