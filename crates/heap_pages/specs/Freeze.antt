-- FREEZE_PAGE: PostgreSQL 16, src/backend/access/heap/heapam.c, heap_xlog_freeze_page, heap_execute_freeze_tuple; heapam_xlog.h, XLH_FREEZE_XVAC.
use Rattle.std.specs.Prelude.{ℕ, List, [], ◌∷◌, Ok, if◌then◌else◌}
use Rattle.page_masks.specs.Law.{Redone, and_then}
use Rattle.block_layouts.specs.declared.plan.FreezePlan.{FreezePlan}
use Rattle.redo_steps.specs.Bits.{has_bit}
use Rattle.redo_steps.specs.Tuple.{with_xmax, with_field3, with_infomask, with_infomask2}
use Rattle.heap_tuples.specs.Heap.{on_tuple}

-- flag 2 makes t_xvac the frozen transaction, 2, and flag 4, XLH_INVALID_XVAC, makes it 0
abbrev pub frozen_xvac : ℕ → List ℕ → List ℕ
frozen_xvac flags t = if has_bit 2 flags then with_field3 2 t else t

abbrev pub with_xvac : ℕ → List ℕ → List ℕ
with_xvac flags t = if has_bit 4 flags then with_field3 0 (frozen_xvac flags t) else frozen_xvac flags t

-- a tuple of a plan
abbrev pub frozen_tuple : FreezePlan → List ℕ → List ℕ
frozen_tuple plan t =
    with_infomask2 (λ _. plan.infomask2) (with_infomask (λ _. plan.infomask) (with_xvac plan.flags (with_xmax plan.xmax t)))

-- the tuples at these places
abbrev pub freeze_places : FreezePlan → List ℕ → List ℕ → Redone
freeze_places plan [] p = Ok p
freeze_places plan (place ∷ places) p = and_then (on_tuple place (frozen_tuple plan) p) (freeze_places plan places)

-- FREEZE_PAGE by these plans
abbrev pub freeze_page : List FreezePlan → List ℕ → Redone
freeze_page [] p = Ok p
freeze_page (plan ∷ plans) p = and_then (freeze_places plan plan.places p) (freeze_page plans)
