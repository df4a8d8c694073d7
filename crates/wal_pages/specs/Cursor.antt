-- What contracts see of a page cursor, and what it knows of a log.
use Rattle.std.specs.Prelude.{◌≡◌, ℕ, List, [], Option, None, Some, Ok, IfSome}
use Rattle.cluster_tree.specs.Contents.{Contents}
use Rattle.wal_pages.specs.declared.log_path.LogPath.{LogPath}
use Rattle.wal_pages.specs.Folder.{folder_of}
use Rattle.wal_pages.specs.Page.{page_at}

-- where it reads, the position at which the page begins that it holds, if it holds one, and that page: 8192 bytes, or none
pub record PageView : Type 0 where
  pub log : LogPath
  pub held : Option ℕ
  pub page : List ℕ

-- the bytes of the page that is held, if one is
abbrev pub page_held : Option ℕ → List ℕ → List ℕ
page_held None bytes = []
page_held (Some at) bytes = bytes

-- a cursor that holds no page
abbrev pub forgotten : PageView → PageView
forgotten cursor = record { log = cursor.log; held = None; page = [] }

-- The page that is held is the log's at its position, in these contents: so it is where nothing is held, and as long as
-- the log's files stay as they were when the page was read.
abbrev pub Knows : PageView → Contents → Type 0
Knows cursor contents = IfSome cursor.held (λ at. page_at cursor.log (folder_of contents cursor.log.folder) at ≡ Ok cursor.page)
