-- VACUUM of a heap page: PostgreSQL 16, src/backend/access/heap/heapam.c, heap_xlog_vacuum.
use Rattle.std.specs.Prelude.{ℕ, ◌-◌, ◌==◌, ◌&&◌, List, [], ◌∷◌, Ok, Err, if◌then◌else◌}
use Rattle.page_layout.specs.Page.{is_place, lp_len}
use Rattle.page_layout.specs.Edits.{with_pointer}
use Rattle.page_layout.specs.declared.refusal.RedoWhy.TheVariants.{Place}
use Rattle.page_masks.specs.Law.{Redone, and_then}

-- a line without an item becomes unused
abbrev pub freed : ℕ → List ℕ → Redone
freed place p = if is_place p place && lp_len p (place - 1) == 0 then Ok (with_pointer p (place - 1) 0 0 0) else Err Place

-- VACUUM of these places
abbrev pub vacuum_page : List ℕ → List ℕ → Redone
vacuum_page [] p = Ok p
vacuum_page (place ∷ places) p = and_then (freed place p) (vacuum_page places)
