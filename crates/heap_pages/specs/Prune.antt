-- PRUNE: PostgreSQL 16, src/backend/access/heap/heapam.c, heap_xlog_prune; pruneheap.c, heap_page_prune_execute.
use Rattle.std.specs.Prelude.{ℕ, List, [], ◌∷◌, Ok}
use Rattle.page_layout.specs.Pack.{pack}
use Rattle.page_masks.specs.Law.{Redone, and_then}
use Rattle.block_layouts.specs.declared.prune.PrunePlaces.{PrunePlaces}
use Rattle.block_layouts.specs.declared.redirects.Redirect.{Redirect}
use Rattle.redo_steps.specs.Redo.{on_page}
use Rattle.heap_pages.specs.Lines.{set_place, set_places}

-- each line becomes a redirect
abbrev pub redirect_all : List Redirect → List ℕ → Redone
redirect_all [] p = Ok p
redirect_all (redirect ∷ redirects) p = and_then (set_place redirect.from redirect.to 2 p) (redirect_all redirects)

-- redirects, then dead lines without an item, then unused ones, and the page packed
abbrev pub prune_page : PrunePlaces → List ℕ → Redone
prune_page places p =
    and_then (and_then (and_then (redirect_all places.redirected p) (set_places 3 places.dead)) (set_places 0 places.unused)) (λ q. on_page (pack q))
