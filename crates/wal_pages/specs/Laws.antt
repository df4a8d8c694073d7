-- What follows from the definitions of valid pages, for all that reads or writes a log.
use Rattle.std.specs.Prelude.{◌≡◌, ◌↔◌, ℕ, ◌+◌, ◌%◌, ◌<◌, List, length, map, Some, None, Ok, slice_get}
use Rattle.wal_pages.specs.declared.log_path.LogPath.{LogPath}
use Rattle.cluster_tree.specs.Contents.{Contents}
use Rattle.wal_pages.specs.Cursor.{PageView, Knows}
use Rattle.wal_pages.specs.Folder.{Folder, folder_of}
use Rattle.wal_pages.specs.LogBytes.{log_byte, SameSegments}
use Rattle.wal_pages.specs.ValidPage.{first_bad_field, IsValidPage}
use Rattle.wal_pages.specs.Page.{page_at}
use Rattle.wal_pages.specs.Payload.{payload, page_payload}

-- a page breaks no rule exactly where each field keeps its own
abbrev pub ValidIsUnbroken : Type 0
ValidIsUnbroken = (log : LogPath) (at : ℕ) (page : List ℕ) → (first_bad_field log at page ≡ None) ↔ IsValidPage log at page

-- a page that is read has 8192 bytes and is valid
abbrev pub ReadIsValid : Type 0
ReadIsValid = (log : LogPath) (files : Folder) (at : ℕ) (page : List ℕ) → page_at log files at ≡ Ok page → (length page ≡ 8192) × IsValidPage log at page

-- a valid page is the log bytes at its positions
abbrev pub PageIsLogBytes : Type 0
PageIsLogBytes = (log : LogPath) (files : Folder) (at : ℕ) (page : List ℕ) → at % 8192 ≡ 0 → page_at log files at ≡ Ok page → (i : ℕ) → i < 8192 → log_byte log files (at + i) ≡ slice_get page i

-- and what it carries is the payload at its positions
abbrev pub PageIsPayload : Type 0
PageIsPayload = (log : LogPath) (files : Folder) (at : ℕ) (page : List ℕ) → at % 8192 ≡ 0 → page_at log files at ≡ Ok page → payload log files at 8192 ≡ map Some (page_payload log at page)

-- the pages of a log are a function of its segments' files
abbrev pub PagesAreOfFiles : Type 0
PagesAreOfFiles = (log : LogPath) (files others : Folder) → SameSegments log files others → (at : ℕ) → page_at log files at ≡ page_at log others at

-- and so a cursor that knows its log in some contents knows it in all that have these files
abbrev pub KnownByFiles : Type 0
KnownByFiles = (cursor : PageView) (old new : Contents) → SameSegments cursor.log (folder_of old cursor.log.folder) (folder_of new cursor.log.folder) → Knows cursor old → Knows cursor new
