-- INPLACE: PostgreSQL 16, src/backend/access/heap/heapam.c, heap_xlog_inplace.
use Rattle.std.specs.Prelude.{ℕ, ◌+◌, ◌-◌, ◌==◌, ◌&&◌, List, Bool, length, Ok, Err, if◌then◌else◌}
use Rattle.layout.specs.Splice.{splice}
use Rattle.page_layout.specs.Page.{item}
use Rattle.page_layout.specs.declared.refusal.RedoWhy.TheVariants.{Place}
use Rattle.page_masks.specs.Law.{Redone}
use Rattle.record_layouts.specs.declared.heap.HeapInplace.{HeapInplace}
use Rattle.redo_steps.specs.Tuple.{hoff}
use Rattle.heap_tuples.specs.Heap.{has_tuple, with_tuple}

-- the tuple with other values, from t_hoff on
abbrev pub with_values : List ℕ → List ℕ → List ℕ
with_values values t = splice t (hoff t) values

-- the values are as many bytes as the tuple has from t_hoff on
abbrev pub values_fit : List ℕ → List ℕ → Bool
values_fit values t = hoff t + length values == length t

-- INPLACE of these values, the bytes of the block
abbrev pub inplace_page : HeapInplace → List ℕ → List ℕ → Redone
inplace_page op values p =
    if has_tuple p op.off && values_fit values (item p (op.off - 1))
    then Ok (with_tuple op.off (with_values values) p)
    else Err Place
