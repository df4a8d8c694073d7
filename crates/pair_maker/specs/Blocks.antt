-- The pages of a pair's relation: PostgreSQL 16, src/backend/access/heap/heapam.c, heap_insert and heap_xlog_insert. Own: "A pair from a number".
use Rattle.std.specs.Prelude.{ℕ, true, List, Option, None, Some}
use Rattle.heap_pages.specs.NewTuple.{new_tuple}
use Rattle.page_layout.specs.Edits.{added, init_bytes}
use Rattle.page_layout.specs.Lsn.{with_lsn}
use Rattle.pair_maker.specs.Inserts.{transaction, tuple_of}

-- where the logs of a pair begin
abbrev pub log_start : ℕ
log_start = 0x10_0000

-- the empty heap page with the tuple of a block at its first place
unfoldable pub inserted : (seed block : ℕ) → List ℕ
inserted seed block = added (init_bytes 0) (new_tuple transaction 0 block 1 (tuple_of seed block)) 1 true

-- a block: empty, with the position as its LSN at which the log begins; or with its tuple, and the end of its insert
unfoldable pub block_page : (seed block : ℕ) → Option ℕ → List ℕ
block_page seed block None = with_lsn log_start (init_bytes 0)
block_page seed block (Some end) = with_lsn end (inserted seed block)
