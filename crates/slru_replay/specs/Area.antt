-- The areas of transaction status and of multixacts, their pages and files: PostgreSQL 16, src/include/access/slru.h;
-- src/backend/access/transam/clog.c and multixact.c.
use Rattle.std.specs.Prelude.{ℕ, ◌+◌, ◌*◌, ◌/◌, ◌%◌, Bool, ◌||◌, List, [], ◌∷◌, replicate, codes, Result}
use Rattle.wal_base.specs.Hex.{upper_hex}
use Rattle.cluster_tree.specs.PathValue.{PathValue, below}
use Rattle.cluster_tree.specs.Contents.{Contents}
use Rattle.cluster_tree.specs.Folders.{lies_in}
use Rattle.cluster_tree.specs.declared.file_fault.FileFault.{FileFault}
use Rattle.file_edits.specs.Edits.{file_edited, laid, on_way}
use Rattle.slru_replay.specs.declared.area.Area.{Area}
use Rattle.slru_replay.specs.declared.area.Area.TheVariants.{Status, Offsets, Members}

-- the folder of an area, below a cluster's root
abbrev pub folder_parts : Area → List (List ℕ)
folder_parts Status = codes "pg_xact" ∷ []
folder_parts Offsets = codes "pg_multixact" ∷ codes "offsets" ∷ []
folder_parts Members = codes "pg_multixact" ∷ codes "members" ∷ []

abbrev pub folder_of : PathValue → Area → PathValue
folder_of root area = below root (folder_parts area)

-- a file has 32 pages (SLRU_PAGES_PER_SEGMENT) of 8192 bytes; its name is its number (%04X)
abbrev pub file_name : ℕ → List ℕ
file_name number = upper_hex 4 number

abbrev pub page_file : PathValue → Area → ℕ → PathValue
page_file root area page = below (folder_of root area) (file_name (page / 32) ∷ [])

-- where a page begins in its file, and where it ends
abbrev pub page_start : ℕ → ℕ
page_start page = page % 32 * 8192

abbrev pub page_end : ℕ → ℕ
page_end page = page_start page + 8192

-- a page of zeros, whatever stood there
abbrev pub page_zeroed : PathValue → Area → ℕ → Contents → Result Contents FileFault
page_zeroed root area page c = file_edited root (page_file root area page) (laid (page_start page) (page_start page) (replicate 8192 0)) c

-- bytes laid over a page: one that isn't there, or in part, is first filled with zeros
abbrev pub page_laid : PathValue → Area → (page at : ℕ) → List ℕ → Contents → Result Contents FileFault
page_laid root area page at bytes c = file_edited root (page_file root area page) (laid (page_end page) (page_start page + at) bytes) c

-- the paths of an area: what lies in its folder, and the folders that lead there
abbrev pub is_of_area : PathValue → Area → PathValue → Bool
is_of_area root area path = on_way root (folder_of root area) path || lies_in (folder_of root area) path
