-- The copies of files that a replay keeps until it has ended. Own: "The shadows of a replay".
use Rattle.std.specs.Prelude.{ℕ, ◌==◌, Bool, false, if◌then◌else◌, List, [], ◌∷◌, codes, decimal, length, Option, None, Some}
use Rattle.cluster_tree.specs.Contents.{Contents, Entry, FileEntry, FolderEntry, LinkEntry, entry_at}
use Rattle.cluster_tree.specs.PathValue.{PathValue, below}
use Rattle.replay_list.specs.Lines.{files_behind}
use Rattle.replay_list.specs.declared.listed.Listed.{Listed}
use Rattle.replay_list.specs.declared.listed.Listed.TheVariants.{Folder, Page, File}

-- the folder of the copies, at a root
abbrev pub shadow_folder : PathValue → PathValue
shadow_folder root = below root (codes "pg_walreplay.shadow" ∷ [])

-- the copy of a number: that of the listed file of no main fork before which so many such files are listed
abbrev pub shadow_at : PathValue → ℕ → PathValue
shadow_at root number = below root (codes "pg_walreplay.shadow" ∷ decimal number ∷ [])

-- a file of so many bytes stands there
abbrev pub is_sized : ℕ → Option Entry → Bool
is_sized size None = false
is_sized size (Some (FolderEntry bad)) = false
is_sized size (Some (FileEntry bytes)) = length bytes == size
is_sized size (Some LinkEntry) = false

-- a copy that isn't a file of its size
abbrev pub lost_copy : Contents → PathValue → (size : ℕ) → Option PathValue
lost_copy c path size = if is_sized size (entry_at c path) then None else Some path

-- .. of what is listed, before which so many files are
abbrev pub lost_of : Contents → PathValue → (files : ℕ) → Listed → Option PathValue
lost_of c root files (Folder path) = None
lost_of c root files (Page path size) = None
lost_of c root files (File path size) = lost_copy c (shadow_at root files) size

-- the first of two
abbrev pub or_later : Option PathValue → Option PathValue → Option PathValue
or_later (Some path) later = Some path
or_later None later = later

-- the first copy of a list that isn't
unfoldable pub first_lost : Contents → PathValue → (files : ℕ) → List Listed → Option PathValue
first_lost c root files [] = None
first_lost c root files (one ∷ more) = or_later (lost_of c root files one) (first_lost c root (files_behind files one) more)
