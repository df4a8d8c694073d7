-- A new heap tuple: PostgreSQL 16, src/include/access/htup_details.h, HeapTupleHeaderData.
use Rattle.std.specs.Prelude.{ℕ, List, [], ◌∷◌, ◌++◌}
use Rattle.page_layout.specs.Bytes.{u16_bytes, u32_bytes}
use Rattle.page_masks.specs.Mask.{tid_bytes}
use Rattle.block_layouts.specs.declared.tuple.TupleHeader.{TupleHeader}
use Rattle.block_layouts.specs.Tuple.{TupleView}

-- the 23 bytes of its header: its transactions, no command id, its own address, and what the record holds
abbrev pub new_header : ℕ → ℕ → ℕ → ℕ → TupleHeader → List ℕ
new_header xmin xmax block place header =
    u32_bytes xmin ++ u32_bytes xmax ++ u32_bytes 0 ++ tid_bytes block place
    ++ u16_bytes header.infomask2 ++ u16_bytes header.infomask ++ (header.hoff ∷ [])

-- the header, and the bytes behind it
abbrev pub new_tuple : ℕ → ℕ → ℕ → ℕ → TupleView → List ℕ
new_tuple xmin xmax block place tuple = new_header xmin xmax block place tuple.header ++ tuple.bytes
