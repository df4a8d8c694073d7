use Rattle.std.proofs.Common.{◌≤◌, IsTrue, drop}
use Rattle.std.specs.List.{All}
use Rattle.cluster_tree.specs.Apart.{is_held}
use Rattle.cluster_tree.specs.Frame.{Came}
use Rattle.file_edits.specs.Own.{OnOwn}
use Rattle.replay_copies.specs.Copying.{IsOpen}
use Rattle.replay_copies.specs.Laid.{IsFound}
use Rattle.stored_replay.specs.Shadows.{shadow_folder}
use Rattle.replay_copies.proofs.CopyLemmas.{AreBehind}
use Rattle.replay_copies.proofs.copying.copy_all.Given as goal

abbrev pub invariant-loop-one : goal.invariant-loop-one
invariant-loop-one g l = record {
  behind : IsTrue g.F.Tree.tells → IsOpen l.root 0 (g.F.Tree.contents l.fn.tree) → All (IsFound (g.F.Tree.contents l.fn.tree)) l.listed → AreBehind l.root l.listed (drop l.one-index l.listed) l.files (g.F.Tree.contents l.fn.tree) (g.F.Tree.contents l.tree);
  files : l.files ≤ l.one-index;
  came : Came g.F.Tree l.fn.tree l.tree;
  own : IsTrue g.F.Tree.tells → OnOwn g.F.Tree.calls (is_held (shadow_folder l.root)) l.fn.tree l.tree;
}
