-- The LSN of a page: PostgreSQL 16, src/include/storage/bufpage.h, PageXLogRecPtr: its high half stands first.
use Rattle.std.specs.Prelude.{ℕ, ◌+◌, ◌*◌, ◌/◌, ◌%◌, List, ◌++◌}
use Rattle.layout.specs.Splice.{splice}
use Rattle.page_layout.specs.Bytes.{u32_at, u32_bytes}

-- the end of the last record that changed the page
unfoldable pub lsn : List ℕ → ℕ
lsn p = u32_at p 0 * 4294967296 + u32_at p 4

-- an LSN as the header has it
abbrev pub lsn_bytes : ℕ → List ℕ
lsn_bytes at = u32_bytes (at / 4294967296) ++ u32_bytes (at % 4294967296)

-- the page with this LSN
unfoldable pub with_lsn : ℕ → List ℕ → List ℕ
with_lsn at p = splice p 0 (lsn_bytes at)
