use Rattle.std.proofs.Common.{◌≡◌, ◌≤◌, true, IsTrue, drop}
use Rattle.std.specs.List.{list_all}
use Rattle.cluster_tree.specs.Frame.{Came}
use Rattle.cluster_tree.specs.PathValue.{PathValue}
use Rattle.file_edits.specs.Own.{OnOwn}
use Rattle.file_edits.specs.Sparing.{Piece, Spares}
use Rattle.replay_restore.specs.Filled.{CanBringAll, has_path, is_spared}
use Rattle.replay_restore.proofs.FillLemmas.{AreBehind}
use Rattle.replay_restore.proofs.filling.fill_all.Given as goal

abbrev pub invariant-loop-one : goal.invariant-loop-one
invariant-loop-one g l = record {
  behind : IsTrue g.F.Tree.tells → CanBringAll l.root 0 l.listed (g.F.Tree.contents l.fn.tree) → AreBehind l.root l.listed (drop l.one-index l.listed) l.files (g.F.Tree.contents l.fn.tree) (g.F.Tree.contents l.tree);
  files : l.files ≤ l.one-index;
  came : Came g.F.Tree l.fn.tree l.tree;
  own : IsTrue g.F.Tree.tells → OnOwn g.F.Tree.calls (has_path l.listed) l.fn.tree l.tree;
  paths : (q : PathValue) → has_path (drop l.one-index l.listed) q ≡ true → has_path l.listed q ≡ true;
  rest : (piece : Piece) → list_all (is_spared piece) l.listed ≡ true → list_all (is_spared piece) (drop l.one-index l.listed) ≡ true;
  spares : IsTrue g.F.Tree.tells → CanBringAll l.root 0 l.listed (g.F.Tree.contents l.fn.tree) → (piece : Piece) → list_all (is_spared piece) l.listed ≡ true → Spares g.F.Tree piece l.fn.tree l.tree;
}
