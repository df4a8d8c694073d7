-- The words of a heap tuple's header: PostgreSQL 16, src/include/access/htup_details.h, HeapTupleHeaderData.
use Rattle.std.specs.Prelude.{ℕ, List}
use Rattle.layout.specs.Splice.{splice}
use Rattle.page_layout.specs.Bytes.{byte, u16_at, u32_bytes, with_u16}
use Rattle.page_masks.specs.Mask.{tid_bytes}
use Rattle.redo_steps.specs.Bits.{told_infomask, told_infomask2, hot_off, hot_on, without_combo}

-- t_xmin, t_xmax, and t_field3, which has the command id
abbrev pub with_xmin : ℕ → List ℕ → List ℕ
with_xmin xid t = splice t 0 (u32_bytes xid)

abbrev pub with_xmax : ℕ → List ℕ → List ℕ
with_xmax xid t = splice t 4 (u32_bytes xid)

abbrev pub with_field3 : ℕ → List ℕ → List ℕ
with_field3 n t = splice t 8 (u32_bytes n)

-- t_ctid: a block and a place
abbrev pub with_ctid : ℕ → ℕ → List ℕ → List ℕ
with_ctid block place t = splice t 12 (tid_bytes block place)

-- t_ctid of a tuple that went to another partition (HeapTupleHeaderSetMovedPartitions)
abbrev pub with_moved_ctid : List ℕ → List ℕ
with_moved_ctid t = with_ctid 0xFFFFFFFF 0xFFFD t

-- t_infomask2 and t_infomask, changed
abbrev pub with_infomask2 : (ℕ → ℕ) → List ℕ → List ℕ
with_infomask2 change t = with_u16 t 18 (change (u16_at t 18))

abbrev pub with_infomask : (ℕ → ℕ) → List ℕ → List ℕ
with_infomask change t = with_u16 t 20 (change (u16_at t 20))

-- t_hoff: where the tuple's values begin
abbrev pub hoff : List ℕ → ℕ
hoff t = byte t 22

-- both infomasks as the record tells of xmax
abbrev pub with_told_bits : ℕ → List ℕ → List ℕ
with_told_bits infobits t = with_infomask2 (told_infomask2 infobits) (with_infomask (told_infomask infobits) t)

-- the next version is, or isn't, a heap-only tuple of this page
abbrev pub with_hot_off : List ℕ → List ℕ
with_hot_off t = with_infomask2 hot_off t

abbrev pub with_hot_on : List ℕ → List ℕ
with_hot_on t = with_infomask2 hot_on t

-- the first command id (HeapTupleHeaderSetCmax of FirstCommandId)
abbrev pub with_first_cid : List ℕ → List ℕ
with_first_cid t = with_field3 0 (with_infomask without_combo t)
