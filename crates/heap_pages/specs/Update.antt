-- UPDATE and HOT_UPDATE: PostgreSQL 16, src/backend/access/heap/heapam.c, heap_xlog_update; src/include/access/heapam_xlog.h, XLH_UPDATE_...
-- Own: "Redo of heap pages", the parts of an old tuple.
use Rattle.std.specs.Prelude.{ℕ, ◌+◌, ◌-◌, ◌&&◌, ◌||◌, List, [], ◌++◌, Bool, true, nat_le, length, Ok, Err, if◌then◌else◌}
use Rattle.page_layout.specs.Bytes.{cut}
use Rattle.page_layout.specs.Page.{item}
use Rattle.page_layout.specs.declared.refusal.RedoWhy.TheVariants.{Place}
use Rattle.page_masks.specs.Law.{Redone, and_then}
use Rattle.block_layouts.specs.Tuple.{TupleView}
use Rattle.block_layouts.specs.Update.{UpdateView}
use Rattle.block_layouts.specs.declared.update.OldParts.{OldParts}
use Rattle.record_layouts.specs.declared.heap.HeapUpdate.{HeapUpdate}
use Rattle.redo_steps.specs.Bits.{has_bit}
use Rattle.redo_steps.specs.Tuple.{hoff, with_xmax, with_ctid, with_told_bits, with_hot_off, with_hot_on, with_first_cid}
use Rattle.redo_steps.specs.Head.{prunable, without_all_visible}
use Rattle.heap_tuples.specs.Heap.{has_tuple, with_tuple, visible_cleared}
use Rattle.heap_tuples.specs.Put.{put_tuple}
use Rattle.heap_pages.specs.declared.update.UpdateKind.{UpdateKind}
use Rattle.heap_pages.specs.declared.update.UpdateKind.TheVariants.{Plain, Hot}
use Rattle.heap_pages.specs.NewTuple.{new_tuple}

-- no index sees the new version of a HOT_UPDATE
abbrev pub with_kind : UpdateKind → List ℕ → List ℕ
with_kind Plain t = with_hot_off t
with_kind Hot t = with_hot_on t

-- the old tuple, whose new version comes to this block
abbrev pub updated_tuple : UpdateKind → ℕ → HeapUpdate → List ℕ → List ℕ
updated_tuple kind block op t =
    with_ctid block op.new_off (with_first_cid (with_xmax op.old_xmax (with_kind kind (with_told_bits op.old_infobits t))))

-- its page
abbrev pub updated_page : ℕ → UpdateKind → ℕ → HeapUpdate → List ℕ → List ℕ
updated_page xid kind block op p =
    visible_cleared op.flags (prunable xid (with_tuple op.old_off (updated_tuple kind block op) p))

-- the old page by this transaction, where the new version comes to a page of another block
abbrev pub update_old_page : ℕ → UpdateKind → ℕ → HeapUpdate → List ℕ → Redone
update_old_page xid kind block op p = if has_tuple p op.old_off then Ok (updated_page xid kind block op p) else Err Place

-- flag 2, XLH_UPDATE_NEW_ALL_VISIBLE_CLEARED
abbrev pub new_cleared : ℕ → List ℕ → List ℕ
new_cleared flags p = if has_bit 2 flags then without_all_visible p else p

-- the new page, of this block
abbrev pub update_new_page : ℕ → ℕ → HeapUpdate → TupleView → List ℕ → Redone
update_new_page xid block op tuple p =
    and_then (put_tuple op.new_off (new_tuple xid op.new_xmax block op.new_off tuple) p) (λ q. Ok (new_cleared op.flags q))

-- the new tuple has parts of the old one
abbrev pub has_parts : OldParts → Bool
has_parts parts = parts.prefix || parts.suffix

-- they lie apart behind the old tuple's header
abbrev pub parts_fit : OldParts → UpdateView → List ℕ → Bool
parts_fit parts tuple old =
    if has_parts parts then nat_le (hoff old + tuple.prefix + tuple.suffix) (length old) else true

-- the first bytes of the old tuple's values, and its last ones
abbrev pub old_front : OldParts → UpdateView → List ℕ → List ℕ
old_front parts tuple old = if has_parts parts then cut old (hoff old) tuple.prefix else []

abbrev pub old_back : OldParts → UpdateView → List ℕ → List ℕ
old_back parts tuple old = if has_parts parts then cut old (length old - tuple.suffix) tuple.suffix else []

-- the new tuple's bytes from 23 on
abbrev pub joined : OldParts → UpdateView → List ℕ → List ℕ
joined parts tuple old = tuple.bitmap ++ old_front parts tuple old ++ tuple.bytes ++ old_back parts tuple old

-- the new tuple
abbrev pub new_version : OldParts → UpdateView → List ℕ → TupleView
new_version parts tuple old = record { header = tuple.header; bytes = joined parts tuple old }

-- both on one page, of this block
abbrev pub update_page : ℕ → ℕ → UpdateKind → HeapUpdate → OldParts → UpdateView → List ℕ → Redone
update_page xid block kind op parts tuple p =
    if has_tuple p op.old_off && parts_fit parts tuple (item p (op.old_off - 1))
    then update_new_page xid block op (new_version parts tuple (item p (op.old_off - 1))) (updated_page xid kind block op p)
    else Err Place
