-- VISIBLE's heap page: PostgreSQL 16, src/backend/access/heap/heapam.c, heap_xlog_visible.
use Rattle.std.specs.Prelude.{ℕ, List, Ok}
use Rattle.page_masks.specs.Law.{Redone}
use Rattle.redo_steps.specs.Head.{with_all_visible}

-- all of the page's tuples are visible to all
abbrev pub visible_page : List ℕ → Redone
visible_page p = Ok (with_all_visible p)
