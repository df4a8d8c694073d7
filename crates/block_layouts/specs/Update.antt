-- The new tuple of an UPDATE or a HOT_UPDATE: PostgreSQL 16, src/include/access/heapam_xlog.h, xl_heap_update;
-- src/backend/access/heap/heapam.c, heap_xlog_update.
use Rattle.std.specs.Prelude.{ℕ, ◌+◌, ◌-◌, ◌||◌, Bool, List, length, take, drop, Option, Some, None, option_and_then, nat_lt, if◌then◌else◌}
use Rattle.layout.specs.Readers.{u16_at}
use Rattle.block_layouts.specs.declared.tuple.TupleHeader.{TupleHeader}
use Rattle.block_layouts.specs.declared.update.OldParts.{OldParts}
use Rattle.block_layouts.specs.declared.update.UpdateTuple.{UpdateTuple}
use Rattle.block_layouts.specs.Tuple.{header_at}

-- The new tuple's bytes from 23 on are its bitmap, the first `prefix` bytes of the old tuple's values, its own bytes,
-- and the old tuple's last `suffix` bytes.
pub record UpdateView : Type 0 where
  pub prefix : ℕ
  pub suffix : ℕ
  pub header : TupleHeader
  pub bitmap : List ℕ
  pub bytes : List ℕ

-- what a clause sees of it
abbrev pub update_seen : UpdateTuple → UpdateView
update_seen tuple = record {
  prefix = tuple.prefix;
  suffix = tuple.suffix;
  header = tuple.header;
  bitmap = tuple.bitmap.now;
  bytes = tuple.bytes.now;
}

-- two bytes for the length of a part that is there
abbrev pub length_size : Bool → ℕ
length_size there = if there then 2 else 0

-- the length of a part, 0 where none is there
abbrev pub length_at : Bool → ℕ → List ℕ → ℕ
length_at there at bytes = if there then u16_at at bytes else 0

-- where the header stands: behind the lengths of the prefix and the suffix
abbrev pub header_place : OldParts → ℕ
header_place parts = length_size parts.prefix + length_size parts.suffix

-- How many bytes of the tuple stand apart before the prefix: those from 23 to hoff, where a part of the old tuple is
-- there; a hoff below 23 leaves none.
abbrev pub bitmap_size : OldParts → ℕ → Option ℕ
bitmap_size parts hoff =
    if parts.prefix || parts.suffix then (if nat_lt hoff 23 then None else Some (hoff - 23)) else Some 0

-- the tuple whose header stands at a place, with a bitmap of so many bytes, where they are there
abbrev pub update_tuple_with : OldParts → List ℕ → ℕ → ℕ → Option UpdateView
update_tuple_with parts bytes at size =
    if nat_lt (length bytes) (at + 5 + size) then None
    else Some (record {
      prefix = length_at parts.prefix 0 bytes;
      suffix = length_at parts.suffix (length_size parts.prefix) bytes;
      header = header_at at bytes;
      bitmap = take size (drop (at + 5) bytes);
      bytes = drop (at + 5 + size) bytes;
    })

-- the new tuple, of which the main bytes tell these parts of the old one
unfoldable pub update_tuple_of : OldParts → List ℕ → Option UpdateView
update_tuple_of parts bytes =
    if nat_lt (length bytes) (header_place parts + 5) then None
    else option_and_then (update_tuple_with parts bytes (header_place parts))
    (bitmap_size parts (header_at (header_place parts) bytes).hoff)
