-- The status of a transaction: PostgreSQL 16, src/backend/access/transam/clog.c, TransactionIdSetStatusBit.
use Rattle.std.specs.Prelude.{ℕ, ◌+◌, ◌*◌, ◌/◌, ◌%◌, ◌^◌, List, [], ◌∷◌, slice_index, Result}
use Rattle.cluster_tree.specs.PathValue.{PathValue}
use Rattle.cluster_tree.specs.Contents.{Contents}
use Rattle.cluster_tree.specs.declared.file_fault.FileFault.{FileFault}
use Rattle.file_edits.specs.Edits.{file_edited, laid}
use Rattle.slru_replay.specs.Area.{page_file, page_start, page_end}
use Rattle.slru_replay.specs.declared.area.Area.TheVariants.{Status}

-- a page has the status of 32768 transactions, a byte of four, two bits each from the low end
abbrev pub status_page : ℕ → ℕ
status_page xid = xid / 32768

-- where its byte stands in the page's file
abbrev pub status_at : ℕ → ℕ
status_at xid = page_start (status_page xid) + xid % 32768 / 4

-- a byte with these two bits in the place of one pair, the lowest pair being 0
unfoldable pub with_pair : (pair bits byte : ℕ) → ℕ
with_pair pair bits byte = byte / 4 ^ (pair + 1) * 4 ^ (pair + 1) + bits * 4 ^ pair + byte % 4 ^ pair

-- a file of status with that of a transaction: a page that isn't there, or in part, is first filled with zeros
abbrev pub with_status : (xid status : ℕ) → List ℕ → List ℕ
with_status xid status old = laid (page_end (status_page xid)) (status_at xid) (with_pair (xid % 4) status (slice_index old (status_at xid)) ∷ []) old

abbrev pub status_set : PathValue → (xid status : ℕ) → Contents → Result Contents FileFault
status_set root xid status c = file_edited root (page_file root Status (status_page xid)) (with_status xid status) c
