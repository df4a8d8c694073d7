-- What redo changes in a page's header: PostgreSQL 16, src/include/storage/bufpage.h, PageSetPrunable, PD_ALL_VISIBLE.
use Rattle.std.specs.Prelude.{ℕ, ◌+◌, ◌-◌, ◌*◌, ◌/◌, ◌%◌, ◌==◌, ◌&&◌, ◌||◌, List, Bool, nat_lt, slice_set, if◌then◌else◌}
use Rattle.layout.specs.Splice.{splice}
use Rattle.page_layout.specs.Bytes.{byte, u32_at, u32_bytes}

-- how far a transaction id lies after another one, modulo 2^32
abbrev pub ahead_of : ℕ → ℕ → ℕ
ahead_of xid other = (xid + 0x100000000 - other) % 0x100000000

-- does it follow the other one (TransactionIdFollows)
abbrev pub follows : ℕ → ℕ → Bool
follows xid other = nat_lt 0 (ahead_of xid other) && nat_lt (ahead_of xid other) 0x80000000

-- pd_prune_xid: the oldest transaction whose changes may leave something to prune, 0 for none
abbrev pub pd_prune_xid : List ℕ → ℕ
pd_prune_xid p = u32_at p 20

-- the page with this transaction there, where there is none or a later one
abbrev pub prunable : ℕ → List ℕ → List ℕ
prunable xid p = if pd_prune_xid p == 0 || follows (pd_prune_xid p) xid then splice p 20 (u32_bytes xid) else p

-- the page without the flag PD_ALL_VISIBLE, 4, and with it
abbrev pub without_all_visible : List ℕ → List ℕ
without_all_visible p = slice_set p 10 (byte p 10 / 8 * 8 + byte p 10 % 4)

abbrev pub with_all_visible : List ℕ → List ℕ
with_all_visible p = slice_set p 10 (byte p 10 / 8 * 8 + 4 + byte p 10 % 4)
