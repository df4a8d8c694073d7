-- What can stand in the way of what is brought back. Own: "A replay that can be started again".
use Rattle.std.specs.Prelude.{◌≡◌, ◌⊎◌, Bool, true, false, not, length, Option, None, Some}
use Rattle.cluster_tree.specs.Contents.{Contents, Entry, FileEntry, FolderEntry, LinkEntry, entry_at, is_folder}
use Rattle.cluster_tree.specs.PathValue.{PathValue}
use Rattle.replay_restore.specs.Freed.{label_path}
use Rattle.replay_restore.specs.Listing.{is_restored_at}

-- no link, nor a folder with a name that isn't text
abbrev pub is_sound : Option Entry → Bool
is_sound None = true
is_sound (Some (FolderEntry bad)) = not bad
is_sound (Some (FileEntry bytes)) = true
is_sound (Some LinkEntry) = false

-- so at each path that is brought back
abbrev pub HasKinds : PathValue → Contents → Type 0
HasKinds root c = (path : PathValue) → is_restored_at root path ≡ true → is_sound (entry_at c path) ≡ true

-- a folder where the label stood, or one of 64 parts at or below the areas
abbrev pub HasOddFolder : PathValue → Contents → Type 0
HasOddFolder root c = (is_folder (entry_at c (label_path root)) ≡ true)
    ⊎ ((path : PathValue) × (is_restored_at root path ≡ true) × (length path.parts ≡ 64) × (is_folder (entry_at c path) ≡ true))
