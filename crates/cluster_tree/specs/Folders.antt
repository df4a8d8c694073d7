-- What lies in a folder, and what may be removed: POSIX.1-2017, System Interfaces: readdir, rmdir, unlink. Own: "The tree of files".
use Rattle.std.specs.Prelude.{◌≡◌, ℕ, ◌-◌, ◌==◌, Bool, ◌&&◌, ◌||◌, cond, nat_lt, List, [], ◌∷◌, length, filter, map, get_or, bytes_eq, Option, None, Some, is_some}
use Rattle.std.specs.List.{list_any}
use Rattle.std.specs.List.Sorted.{IsStrictlySortedBy}
use Rattle.std.specs.Ordering.{nat_cmp}
use Rattle.std.specs.Cmp.Lexicographic.{slice_cmp}
use Rattle.std.specs.FinMap.{get, keys}
use Rattle.cluster_tree.specs.PathValue.{PathValue, below}
use Rattle.cluster_tree.specs.PathOrder.{path_eq}
use Rattle.cluster_tree.specs.Contents.{Entry, FolderEntry, FileEntry, LinkEntry, Contents, parent, entry_at}
use Rattle.cluster_tree.specs.declared.tree.TreeFault.{TreeFault}
use Rattle.cluster_tree.specs.declared.tree.TreeFault.TheVariants as fault

-- whether a path lies right in a folder
abbrev pub lies_in : PathValue → PathValue → Bool
lies_in folder path = nat_lt 0 (length path.parts) && path_eq folder (parent path)

-- whether something lies in a folder
abbrev pub has_child : Contents → PathValue → Bool
has_child c folder = list_any (lies_in folder) (keys c)

-- the name of what stands at a path
abbrev pub last_part : PathValue → List ℕ
last_part path = get_or path.parts (length path.parts - 1) []

-- the names of what lies in a folder, in the order of their paths
unfoldable pub names_in : Contents → PathValue → List (List ℕ)
names_in c folder = map last_part (filter (lies_in folder) (keys c))

-- why what stands there can't be listed, if so
abbrev pub list_refusal : Option Entry → Option TreeFault
list_refusal None = Some fault.Absent
list_refusal (Some (FolderEntry bad)) = cond bad (Some fault.NameNotText) None
list_refusal (Some (FileEntry _)) = Some fault.NotFolder
list_refusal (Some LinkEntry) = Some fault.Link

-- the names of what lies in a folder, in ascending order of their bytes
pub record IsListing (c : Contents) (folder : PathValue) (names : List (List ℕ)) : Type 0 where
  pub ascending : IsStrictlySortedBy (slice_cmp nat_cmp) names
  pub members : (name : List ℕ) → list_any (bytes_eq name) names ≡ is_some (get c (below folder (name ∷ [])))

-- why what stands there isn't removed, if so: a folder is kept where it is in use
abbrev pub removal_refusal : Bool → Option Entry → Option TreeFault
removal_refusal in_use None = Some fault.Absent
removal_refusal in_use (Some (FolderEntry bad)) = cond (bad || in_use) (Some fault.NotEmpty) None
removal_refusal in_use (Some (FileEntry _)) = None
removal_refusal in_use (Some LinkEntry) = Some fault.Link

-- why an entry isn't removed, if so; the current folder and the root are always in use
abbrev pub remove_refusal : Contents → PathValue → Option TreeFault
remove_refusal c path = removal_refusal (length path.parts == 0 || has_child c path) (entry_at c path)
