-- A file is never refused to be removed.
use Rattle.std.proofs.Common.{◌≡◌, Bool, true, Option, None, Some, refl, true≢false, sym, [], ◌∷◌}
use Rattle.cluster_tree.specs.PathValue.{PathValue}
use Rattle.cluster_tree.specs.Contents.{Contents, Entry, FolderEntry, FileEntry, LinkEntry, entry_at, is_file}
use Rattle.cluster_tree.specs.Folders.{removal_refusal}
use Rattle.cluster_tree.specs.Change.{Removes, first_refusal, or_next}

removal_of_file : (in_use : Bool) (o : Option Entry) → is_file o ≡ true → or_next (removal_refusal in_use o) None ≡ None
removal_of_file in_use None h = absurd (true≢false (sym h))
removal_of_file in_use (Some (FolderEntry bad)) h = absurd (true≢false (sym h))
removal_of_file in_use (Some (FileEntry bytes)) h = refl
removal_of_file in_use (Some LinkEntry) h = absurd (true≢false (sym h))

pub file_unrefused : (c : Contents) (path : PathValue) → is_file (entry_at c path) ≡ true → first_refusal c (Removes path ∷ []) ≡ None
file_unrefused c path h = removal_of_file _ (entry_at c path) h

pub ruleset file_steps = (file_unrefused)
