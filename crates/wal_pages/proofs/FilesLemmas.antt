-- The pages of a log are those of its segments' files.
use Rattle.std.proofs.Common.{◌≡◌, ℕ, ◌/◌, ◌%◌, ◌^◌, List, Option, Some, None, Ok, IfSome, nat_lt, ap, sym, ◌∙◌}
use Rattle.std.specs.Prelude.{if◌then◌else◌}
use Rattle.cluster_tree.specs.Causes.{given}
use Rattle.wal_base.specs.Segment.{bytes_of}
use Rattle.wal_pages.specs.declared.log_path.LogPath.{LogPath}
use Rattle.wal_pages.specs.Folder.{Folder}
use Rattle.wal_pages.specs.LogBytes.{segment_at, segment_bytes, SameSegments}
use Rattle.wal_pages.specs.ValidPage.{first_bad_field}
use Rattle.wal_pages.specs.Page.{bytes_from, unless_bad, page_at}

same_bytes : (log : LogPath) (files others : Folder) → SameSegments log files others → (at : ℕ) → segment_bytes log files at ≡ segment_bytes log others at
same_bytes log files others same at = ap (λ (b : Option (List ℕ)). if nat_lt at (2 ^ 64) then b else None) (same (at / bytes_of log.size))

pub same_pages : (log : LogPath) (files others : Folder) → SameSegments log files others → (at : ℕ) → page_at log files at ≡ page_at log others at
unfolding page_at
same_pages log files others same at =
    ap (λ (b : Option (List ℕ)). given (bytes_from (segment_at log at) (at % bytes_of log.size) b) (λ page. unless_bad at page (first_bad_field log at page)))
    (same_bytes log files others same at)

pub same_held : (held : Option ℕ) (page : List ℕ) (log : LogPath) (files others : Folder) → SameSegments log files others
    → IfSome held (λ at. page_at log files at ≡ Ok page) → IfSome held (λ at. page_at log others at ≡ Ok page)
same_held None page log files others same known = tt
same_held (Some at) page log files others same known = sym (same_pages log files others same at) ∙ known
