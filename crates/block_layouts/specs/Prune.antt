-- The bytes of a PRUNE: PostgreSQL 16, src/include/access/heapam_xlog.h, xl_heap_prune; src/backend/access/heap/heapam.c,
-- heap_xlog_prune.
use Rattle.std.specs.Prelude.{ℕ, ◌+◌, ◌-◌, ◌*◌, ◌/◌, List, length, Option}
use Rattle.block_layouts.specs.declared.prune.PrunePlaces.{PrunePlaces}
use Rattle.layout_readers.specs.Whole.{whole}
use Rattle.block_layouts.specs.Places.{places_from}
use Rattle.block_layouts.specs.Redirects.{redirects_from}

-- how many places there is room for from an offset on
abbrev pub places_left : ℕ → List ℕ → ℕ
places_left at bytes = (length bytes - at) / 2

-- The pairs, then the dead places, whose numbers the main bytes tell, and then unused places to the end.
abbrev pub prune_places_of : ℕ → ℕ → List ℕ → Option PrunePlaces
prune_places_of redirected dead bytes =
    let dead_at = 4 * redirected in
    let unused_at = dead_at + 2 * dead in
    whole unused_at bytes record {
      redirected = redirects_from redirected bytes 0;
      dead = places_from dead bytes dead_at;
      unused = places_from (places_left unused_at bytes) bytes unused_at;
    }
