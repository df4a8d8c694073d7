-- What a step of a walk does with what waited. Own: "The order of a walk".
use Rattle.std.specs.Prelude.{◌≡◌, ◌⊎◌, ℕ, true, false, List, [], ◌∷◌, length, Option, None, Some, Result, Ok, Err, is_some}
use Rattle.std.specs.FinMap.{get}
use Rattle.std.specs.List.{list_all}
use Rattle.cluster_tree.specs.Contents.{Contents, FolderEntry, FileEntry, entry_at}
use Rattle.cluster_tree.specs.Folders.{IsListing}
use Rattle.cluster_tree.specs.PathValue.{PathValue, is_part}
use Rattle.file_walk.specs.declared.entry.Entry.{Entry as Walked}
use Rattle.file_walk.specs.declared.entries.Listed.{Listed}
use Rattle.file_walk.specs.declared.entry.EntryKind.TheVariants.{File, Folder}
use Rattle.file_walk.specs.declared.fault.WalkFault.{WalkFault}
use Rattle.file_walk.specs.declared.fault.WalkFault.TheVariants as fault
use Rattle.file_walk.specs.declared.place.Place.{Place}
use Rattle.file_walk.specs.declared.waiting.Waiting.{Waiting}
use Rattle.file_walk.specs.declared.waiting.Waiting.TheVariants.{At, TooDeep}
use Rattle.file_walk.specs.Actions.{here}
use Rattle.file_walk.specs.Faults.{IsFree}
use Rattle.file_walk.specs.Seeing.{HasFlaw}
use Rattle.file_walk.specs.Waiting.{put_names}
use Rattle.file_walk.specs.Walk.{size_flaw}

-- where a listing has told of it, something stands
abbrev pub IsThere : Contents → Waiting → Type 0
IsThere c (At place) = is_some (get c place.full) ≡ true
IsThere c (TooDeep path) = Unit {0}

-- a file without a flaw is told, and what waits stays
pub record IsFileStep (c : Contents) (place : Place) (old new : List (List ℕ × Waiting)) (entry : Walked) : Type 0 where
  pub bytes : List ℕ
  pub there : entry_at c place.full ≡ Some (FileEntry bytes)
  pub sound : size_flaw place.own (length bytes) ≡ None
  pub told : entry ≡ record { path = place.own; kind = File (length bytes) }
  pub kept : new ≡ old

-- a folder without a flaw is told, and its names wait
pub record IsFolderStep (c : Contents) (place : Place) (old new : List (List ℕ × Waiting)) (entry : Walked) : Type 0 where
  pub names : List (List ℕ)
  pub there : entry_at c place.full ≡ Some (FolderEntry false)
  pub listing : IsListing c place.full names
  pub parts : list_all is_part names ≡ true
  pub told : entry ≡ record { path = place.own; kind = Folder }
  pub added : new ≡ put_names place old names

abbrev pub FitsLook : Contents → Place → (old new : List (List ℕ × Waiting)) → Result Walked WalkFault → Type 0
FitsLook c place old new (Ok entry) = IsFileStep c place old new entry ⊎ IsFolderStep c place old new entry
FitsLook c place old new (Err e) = IsFree e ⊎ HasFlaw c place.own place.full e

abbrev pub FitsStep : Contents → Waiting → (old new : List (List ℕ × Waiting)) → Result Walked WalkFault → Type 0
FitsStep c (At place) old new result = FitsLook c place old new result
FitsStep c (TooDeep path) old new (Ok entry) = ⊥
FitsStep c (TooDeep path) old new (Err e) = e ≡ fault.TooDeep path

-- at first the names in the root wait
pub record IsBegun (c : Contents) (root : PathValue) (queue : List (List ℕ × Waiting)) : Type 0 where
  pub names : List (List ℕ)
  pub listing : IsListing c root names
  pub parts : list_all is_part names ≡ true
  pub put : queue ≡ put_names (record { own = here; full = root }) [] names

-- the least path is next, where one waits
abbrev pub IsFirstThere : Contents → List (List ℕ × Waiting) → Type 0
IsFirstThere c [] = Unit {0}
IsFirstThere c (e ∷ rest) = IsThere c e.1

abbrev pub FitsNext : Contents → (old new : List (List ℕ × Waiting)) → Result (Option Listed) WalkFault → Type 0
FitsNext c [] new result = result ≡ Ok None
FitsNext c (e ∷ rest) new (Ok None) = ⊥
FitsNext c (e ∷ rest) new (Ok (Some listed)) = FitsStep c e.1 rest new (Ok listed.entry)
FitsNext c (e ∷ rest) new (Err flaw) = FitsStep c e.1 rest new (Err flaw)

-- over every tree, what is told is of the path that waited
abbrev pub IsToldOf : Waiting → Walked → Type 0
IsToldOf (At place) entry = entry.path ≡ place.own
IsToldOf (TooDeep path) entry = ⊥
