-- Lines that get no item: PostgreSQL 16, src/include/storage/itemid.h, ItemIdSetRedirect, ItemIdSetDead, ItemIdSetUnused.
use Rattle.std.specs.Prelude.{ℕ, ◌-◌, ◌&&◌, List, [], ◌∷◌, nat_lt, Ok, Err, if◌then◌else◌}
use Rattle.page_layout.specs.Page.{is_place}
use Rattle.page_layout.specs.Edits.{with_pointer}
use Rattle.page_layout.specs.declared.refusal.RedoWhy.TheVariants.{Place}
use Rattle.page_masks.specs.Law.{Redone, and_then}

-- the line at a place gets these numbers and no item, where it is there and the number has 15 bits
abbrev pub set_place : ℕ → ℕ → ℕ → List ℕ → Redone
set_place place off flags p =
    if is_place p place && nat_lt off 32768 then Ok (with_pointer p (place - 1) off flags 0) else Err Place

-- the lines at these places become of this kind: 0 unused, 3 dead
abbrev pub set_places : ℕ → List ℕ → List ℕ → Redone
set_places flags [] p = Ok p
set_places flags (place ∷ places) p = and_then (set_place place 0 flags p) (set_places flags places)
