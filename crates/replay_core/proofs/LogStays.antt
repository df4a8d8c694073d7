-- The log stays while records are replayed: no call is made below pg_wal.
use Rattle.std.proofs.Common.{◌≡◌, ℕ, true, false, List, [], ◌∷◌, ap, subst, sym}
use Rattle.cluster_tree.specs.Apart.{is_held}
use Rattle.cluster_tree.specs.Contents.{Contents, entry_at}
use Rattle.cluster_tree.specs.Frame.{Came}
use Rattle.cluster_tree.specs.PathValue.{PathValue, Holds, below}
use Rattle.cluster_tree.specs.Run.{Still, state_by}
use Rattle.cluster_tree.specs.declared.tree.Tree.{Ghosts}
use Rattle.cluster_tree.proofs.HoldLemmas.{holds-held}
use Rattle.cluster_tree.proofs.RootLemmas.{holds-below}
use Rattle.clusters.specs.Roots.{wal_folder}
use Rattle.file_edits.specs.Own.{OnOwn, Same}
use Rattle.file_edits.proofs.LawLemmas.{own-elsewhere}
use Rattle.file_effects.specs.Own.{is_replayed}
use Rattle.file_effects.proofs.ApartLemmas.{log-not-replayed}
use Rattle.wal_base.specs.Segment.{bytes_of, name_of}
use Rattle.wal_pages.specs.Folder.{file_in, folder_of}
use Rattle.wal_pages.specs.LogBytes.{segment_of}
use Rattle.wal_pages.specs.declared.log_path.LogPath.{LogPath}
use Rattle.wal_pages.proofs.FilesLemmas.{same_held}
use Rattle.wal_records.specs.Cursor.{CursorView, Knows, to_come}
use Rattle.wal_records.specs.Laws.{SameLog}
use Rattle.wal_records.proofs.FilesLemmas.{log_same}

-- every path that isn't replayed holds what it held
abbrev pub Elsewhere : PathValue → Contents → Contents → Type 0
Elsewhere root old new = (path : PathValue) → is_replayed root path ≡ false → entry_at new path ≡ entry_at old path

pub elsewhere : {F : Type 0} (t : Ghosts F) (root : PathValue) (old new : F) → Came t old new → OnOwn t.calls (is_replayed root) old new → Elsewhere root (t.contents old) (t.contents new)
elsewhere t root old new came own path not_own =
    own-elsewhere (is_replayed root) (state_by t.contents t.calls old) (state_by t.contents t.calls new) path (came.run (state_by t.contents t.calls old) Still) (own (t.calls old) Same) not_own

in_log : (root folder : PathValue) (name : List ℕ) → folder ≡ wal_folder root → is_held (wal_folder root) (below folder (name ∷ [])) ≡ true
in_log root folder name is =
    holds-held (wal_folder root) (below folder (name ∷ [])) (subst (λ (f : PathValue). Holds (wal_folder root) (below f (name ∷ []))) (sym is) (holds-below (wal_folder root) (name ∷ [])))

pub log_stays : (root : PathValue) (log : LogPath) (old new : Contents) → log.folder ≡ wal_folder root → Elsewhere root old new → SameLog log old new
log_stays root log old new folder stays number =
    let name = name_of (segment_of log number) in
    ap file_in (sym (stays (below log.folder (name ∷ [])) (log-not-replayed root (below log.folder (name ∷ [])) (in_log root log.folder name folder))))

-- so is what is to come, and what a cursor knows
pub to_come_stays : (root : PathValue) (cursor : CursorView) (old new : Contents) → cursor.log.folder ≡ wal_folder root → Elsewhere root old new → to_come cursor old ≡ to_come cursor new
to_come_stays root cursor old new folder stays = log_same cursor.log old new (log_stays root cursor.log old new folder stays) (bytes_of cursor.log.size) cursor.before cursor.place

pub knows_stays : (root : PathValue) (cursor : CursorView) (old new : Contents) → cursor.log.folder ≡ wal_folder root → Elsewhere root old new → Knows cursor old → Knows cursor new
knows_stays root cursor old new folder stays known =
    same_held cursor.held cursor.page cursor.log (folder_of old cursor.log.folder) (folder_of new cursor.log.folder) (log_stays root cursor.log old new folder stays) known
