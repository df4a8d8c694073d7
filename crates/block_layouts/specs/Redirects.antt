-- Pairs of places in a block's bytes: PostgreSQL 16, src/include/access/heapam_xlog.h, xl_heap_prune.
use Rattle.std.specs.Prelude.{ℕ, ◌+◌, List}
use Rattle.layout.specs.Readers.{u16_at}
use Rattle.block_layouts.specs.declared.redirects.Redirect.{Redirect}
use Rattle.block_layouts.specs.Row.{row_of}

-- one pair, and the offset behind it
abbrev pub redirect_at : List ℕ → ℕ → Redirect
redirect_at bytes at = record { from = u16_at at bytes; to = u16_at (at + 2) bytes }

abbrev pub redirect_behind : List ℕ → ℕ → ℕ
redirect_behind bytes at = at + 4

-- so many pairs, the first at an offset
abbrev pub redirects_from : ℕ → List ℕ → ℕ → List Redirect
redirects_from count bytes at = row_of redirect_at redirect_behind count bytes at
