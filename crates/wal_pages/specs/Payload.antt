-- What a log carries: its bytes without the headers of its pages. PostgreSQL 16,
-- src/backend/access/transam/xlogreader.c, ReadPageInternal's callers, which skip XLogPageHeaderSize of each page.
use Rattle.std.specs.Prelude.{ℕ, ◌%◌, Bool, not, List, map, filter, drop, Option, nat_lt}
use Rattle.std.specs.List.{range_with_len}
use Rattle.wal_base.specs.Segment.{bytes_of}
use Rattle.wal_pages.specs.declared.log_path.LogPath.{LogPath}
use Rattle.wal_pages.specs.Folder.{Folder}
use Rattle.wal_pages.specs.Header.{page_of, header_size}
use Rattle.wal_pages.specs.LogBytes.{log_byte}

-- whether a position lies in the header of its page
abbrev pub in_header : LogPath → ℕ → Bool
in_header log at = nat_lt (at % 8192) (header_size (bytes_of log.size) (page_of at))

-- the log bytes without page headers, at so many positions from one on
abbrev pub payload : LogPath → Folder → ℕ → ℕ → List (Option ℕ)
payload log files at n = map (log_byte log files) (filter (λ p. not (in_header log p)) (range_with_len at n))

-- what the page at a position carries
abbrev pub page_payload : LogPath → ℕ → List ℕ → List ℕ
page_payload log at page = drop (header_size (bytes_of log.size) at) page
