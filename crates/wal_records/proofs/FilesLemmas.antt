-- A log is that of its segments' files.
use Rattle.std.proofs.Common.{◌≡◌, ℕ, Option, ap}
use Rattle.std.proofs.Math.Path.{fun_ext}
use Rattle.cluster_tree.specs.Contents.{Contents}
use Rattle.wal_pages.specs.declared.log_path.LogPath.{LogPath}
use Rattle.wal_pages.specs.Folder.{folder_of}
use Rattle.wal_pages.proofs.FilesLemmas.{same_pages}
use Rattle.wal_records.specs.Further.{Pages, pages_of}
use Rattle.wal_records.specs.Log.{log_from}
use Rattle.wal_records.specs.Laws.{SameLog}

pub same_log : (log : LogPath) (old new : Contents) → SameLog log old new → pages_of log old ≡ pages_of log new
same_log log old new same = fun_ext (λ at. same_pages log (folder_of old log.folder) (folder_of new log.folder) same at)

pub log_same : (log : LogPath) (old new : Contents) → SameLog log old new → (size : ℕ) (before : Option ℕ) (place : ℕ)
    → log_from (pages_of log old) size before place ≡ log_from (pages_of log new) size before place
log_same log old new same size before place = ap (λ (pages : Pages). log_from pages size before place) (same_log log old new same)
