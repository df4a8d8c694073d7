-- What stands at a path on both sides, by what the walks told.
use Rattle.std.proofs.Common.{◌≡◌, ◌≢◌, ℕ, Bool, true, false, ◌||◌, ◌&&◌, List, length, Option, None, Some, refl, sym, ap, ap₂, ◌∙◌, true≢false}
use Rattle.block_refs.specs.declared.names.RelName.{RelName}
use Rattle.cluster_tree.specs.Contents.{Contents, Entry, FolderEntry, FileEntry, LinkEntry, entry_at, is_file}
use Rattle.cluster_tree.specs.PathValue.{PathValue}
use Rattle.cluster_tree.specs.Tree.{bytes_in}
use Rattle.file_walk.specs.Actions.{is_version}
use Rattle.file_walk.specs.Relations.{relation_of}
use Rattle.file_walk.specs.Walk.{kind_there}
use Rattle.file_walk.specs.declared.entry.EntryKind.{EntryKind}
use Rattle.file_walk.specs.declared.entry.EntryKind.TheVariants as kind
use Rattle.cluster_compare.specs.Same.{entries_differ, files_differ, is_left_out, is_plain, is_unlogged}

-- a file by its kind
pub file-there : (o : Option Entry) (n : ℕ) → Some (kind.File n) ≡ kind_there o → (is_file o ≡ true) × (length (bytes_in o) ≡ n)
file-there None n h = absurd cc
file-there (Some (FolderEntry bad)) n h = absurd cc
file-there (Some (FileEntry bytes)) n h = (refl, (let same : n ≡ length bytes = cc in sym same))
file-there (Some LinkEntry) n h = absurd cc

-- how two entries differ, by their kinds, and where both are files by those
abbrev pub by_kinds : (first second : Option EntryKind) → Option (Option ℕ) → Option (Option ℕ)
by_kinds None None files = None
by_kinds (Some (kind.File n)) (Some (kind.File m)) files = files
by_kinds (Some kind.Folder) (Some kind.Folder) files = None
by_kinds None (Some k) files = Some None
by_kinds (Some k) None files = Some None
by_kinds (Some (kind.File n)) (Some kind.Folder) files = Some None
by_kinds (Some kind.Folder) (Some (kind.File n)) files = Some None

module _ (per_file : ℕ) (relation : Option (RelName × ℕ)) where
  kinds-of : (o p : Option Entry) → o ≢ Some LinkEntry → p ≢ Some LinkEntry
      → entries_differ per_file relation o p ≡ by_kinds (kind_there o) (kind_there p) (files_differ per_file relation (bytes_in o) (bytes_in p))
  kinds-of None None h k = refl
  kinds-of None (Some (FolderEntry bad)) h k = refl
  kinds-of None (Some (FileEntry bytes)) h k = refl
  kinds-of None (Some LinkEntry) h k = absurd (k refl)
  kinds-of (Some (FolderEntry bad)) None h k = refl
  kinds-of (Some (FolderEntry bad)) (Some (FolderEntry worse)) h k = refl
  kinds-of (Some (FolderEntry bad)) (Some (FileEntry bytes)) h k = refl
  kinds-of (Some (FolderEntry bad)) (Some LinkEntry) h k = absurd (k refl)
  kinds-of (Some (FileEntry bytes)) None h k = refl
  kinds-of (Some (FileEntry bytes)) (Some (FolderEntry bad)) h k = refl
  kinds-of (Some (FileEntry bytes)) (Some (FileEntry others)) h k = refl
  kinds-of (Some (FileEntry bytes)) (Some LinkEntry) h k = absurd (k refl)
  kinds-of (Some LinkEntry) p h k = absurd (h refl)

  pub entries-by-kinds : (first second : Option EntryKind) (o p : Option Entry) → first ≡ kind_there o → o ≢ Some LinkEntry → second ≡ kind_there p → p ≢ Some LinkEntry
      → entries_differ per_file relation o p ≡ by_kinds first second (files_differ per_file relation (bytes_in o) (bytes_in p))
  entries-by-kinds first second o p a h b k = kinds-of o p h k ∙ ap₂ (λ x y. by_kinds x y (files_differ per_file relation (bytes_in o) (bytes_in p))) (sym a) (sym b)

-- ---- what isn't left out

none-first : (a b d : Bool) → b ≡ false → false ≡ (a && (b && d))
none-first false b d h = refl
none-first true false d h = refl
none-first true true d h = absurd (true≢false h)

none-second : (a b d : Bool) → d ≡ false → false ≡ (a && (b && d))
none-second false b d h = refl
none-second true false d h = refl
none-second true true false h = refl
none-second true true true h = absurd (true≢false h)

module _ (unlogged : RelName → Bool) (path : PathValue) (o p : Option Entry) (plain : Bool) where
  pub first-kept : plain ≡ is_plain o → plain ≡ false → false ≡ is_left_out unlogged path o p
  first-kept is none = none-first (is_version path || is_unlogged unlogged (relation_of path)) (is_plain o) (is_plain p) (sym is ∙ none)

  pub second-kept : plain ≡ is_plain p → plain ≡ false → false ≡ is_left_out unlogged path o p
  second-kept is none = none-second (is_version path || is_unlogged unlogged (relation_of path)) (is_plain o) (is_plain p) (sym is ∙ none)
