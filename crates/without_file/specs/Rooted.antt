-- A tree in which a file is not seen is a tree: whatever is there lies in a folder.
use Rattle.std.proofs.Common.{◌≡◌, Bool, true, false, cond, Option, Some, None, refl, sym, true≢false}
use Rattle.std.specs.FinMap.{remove}
use Rattle.cluster_tree.specs.Contents.{Contents, Entry, FileEntry, FolderEntry, LinkEntry, IsTree, entry_at, is_file}
use Rattle.cluster_tree.specs.Folders.{removal_refusal}
use Rattle.cluster_tree.specs.PathValue.{PathValue}
use Rattle.cluster_tree.proofs.TreeLemmas.{removed-tree}
use Rattle.without_file.specs.Without.{without_file}

-- a file may be removed
free : (used : Bool) (o : Option Entry) → is_file o ≡ true → removal_refusal used o ≡ None
free used (Some (FileEntry bytes)) e = refl
free used None e = absurd (true≢false (sym e))
free used (Some (FolderEntry bad)) e = absurd (true≢false (sym e))
free used (Some LinkEntry) e = absurd (true≢false (sym e))

tree_at : (c : Contents) (p : PathValue) (b : Bool) → is_file (entry_at c p) ≡ b → IsTree c → IsTree (cond b (remove c p) c)
tree_at c p true e tree = removed-tree c p tree (free _ (entry_at c p) e)
tree_at c p false e tree = tree

pub without-tree : (c : Contents) (p : PathValue) → IsTree c → IsTree (without_file c p)
without-tree c p tree = tree_at c p (is_file (entry_at c p)) refl tree
