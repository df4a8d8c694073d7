-- What is known of two clusters whose walks were paired. Own: "The plan of a rewind".
use Rattle.std.specs.Prelude.{◌≡◌, ◌≢◌, ℕ, ◌%◌, ◌==◌, Bool, true, false, ◌||◌, List, [], ◌∷◌, codes, length, Option, None, Some, is_some}
use Rattle.std.specs.List.{list_any}
use Rattle.cluster_tree.specs.PathValue.{PathValue, below, path_of}
use Rattle.cluster_tree.specs.Apart.{AreApart}
use Rattle.cluster_tree.specs.PathOrder.{path_eq}
use Rattle.cluster_tree.specs.Contents.{Contents, Entry, FolderEntry, FileEntry, IsTree, entry_at, is_folder, parent}
use Rattle.file_walk.specs.declared.action.Action.TheVariants as action
use Rattle.file_walk.specs.declared.entry.EntryKind.{EntryKind}
use Rattle.file_walk.specs.declared.entry.EntryKind.TheVariants as kind
use Rattle.file_walk.specs.declared.pair.Pair.{Pair}
use Rattle.file_walk.specs.Actions.{is_kept, is_mark}
use Rattle.file_walk.specs.Relations.{relation_of}
use Rattle.rewind_plan.specs.Planned.{Between, action_of, in_source, in_target}

-- what stands somewhere is what a walk found: a file of so many bytes, a folder without a bad name, or nothing
abbrev pub IsKind : Option EntryKind → Option Entry → Type 0
IsKind None o = o ≡ None
IsKind (Some (kind.File size)) o = (bytes : List ℕ) × (o ≡ Some (FileEntry bytes)) × (length bytes ≡ size)
IsKind (Some kind.Folder) o = o ≡ Some (FolderEntry false)

-- a file of blocks has whole ones
abbrev pub IsWhole : Option EntryKind → Type 0
IsWhole None = Unit {0}
IsWhole (Some (kind.File size)) = size % 8192 ≡ 0
IsWhole (Some kind.Folder) = Unit {0}

-- a pair is a path below the roots, with what stands there on both sides, of kinds that don't differ
pub record IsPaired (c : Contents) (w : Between) (pair : Pair) : Type 0 where
  pub relative : pair.path.absolute ≡ false
  pub deep : length pair.path.parts == 0 ≡ false
  pub target : IsKind pair.target (entry_at c (in_target w pair))
  pub source : IsKind pair.source (entry_at c (in_source w pair))
  pub some : is_some pair.target || is_some pair.source ≡ true
  pub agreed : action_of pair ≢ action.KindsDiffer
  pub blocks : is_some (relation_of pair.path) ≡ true → IsWhole pair.target × IsWhole pair.source

abbrev pub AllPaired : Contents → Between → List Pair → Type 0
AllPaired c w [] = Unit {0}
AllPaired c w (pair ∷ pairs) = IsPaired c w pair × AllPaired c w pairs

-- each path stands once, and behind the folder that it lies in
abbrev pub is_at : PathValue → Pair → Bool
is_at path pair = path_eq path pair.path

abbrev pub AreInTurn : List Pair → Type 0
AreInTurn [] = Unit {0}
AreInTurn (pair ∷ pairs) =
    (list_any (is_at pair.path) pairs ≡ false) × (list_any (is_at (parent pair.path)) pairs ≡ false) × AreInTurn pairs

-- the names of what a rewind writes by itself, from the target's root on
abbrev pub mark_parts : List (List ℕ)
mark_parts = codes "pg_rewind.unfinished" ∷ []

abbrev pub label_parts : List (List ℕ)
label_parts = codes "backup_label" ∷ []

abbrev pub control_parts : List (List ℕ)
control_parts = codes "global" ∷ codes "pg_control" ∷ []

-- two clusters and all paths below them, side by side
pub record Sides (c : Contents) (w : Between) (pairs : List Pair) : Type 0 where
  pub apart : AreApart w.target w.source
  pub tree : IsTree c
  pub target_root : is_folder (entry_at c w.target) ≡ true
  pub source_root : is_folder (entry_at c w.source) ≡ true
  pub paired : AllPaired c w pairs
  pub turn : AreInTurn pairs
  pub whole : (parts : List (List ℕ)) → length parts == 0 ≡ false
      → is_some (entry_at c (below w.target parts)) || is_some (entry_at c (below w.source parts)) ≡ true
      → list_any (is_at (path_of false parts)) pairs ≡ true
  -- what a rewind keeps, the control file and marks, is a file in both, or in neither
  pub kept_target : (parts : List (List ℕ)) → is_kept (path_of false parts) ≡ true → is_folder (entry_at c (below w.target parts)) ≡ false
  pub kept_source : (parts : List (List ℕ)) → is_kept (path_of false parts) ≡ true → is_folder (entry_at c (below w.source parts)) ≡ false
  pub kept_alike : (parts : List (List ℕ)) → is_kept (path_of false parts) ≡ true
      → is_some (entry_at c (below w.source parts)) ≡ is_some (entry_at c (below w.target parts))
  -- no run is unfinished in either, and the target's control file is as long as one is
  pub marks_target : (parts : List (List ℕ)) → is_mark parts ≡ true → entry_at c (below w.target parts) ≡ None
  pub marks_source : (parts : List (List ℕ)) → is_mark parts ≡ true → entry_at c (below w.source parts) ≡ None
  pub control : (bytes : List ℕ) × (entry_at c (below w.target control_parts) ≡ Some (FileEntry bytes)) × (length bytes ≡ 8192)
