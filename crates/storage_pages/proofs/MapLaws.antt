-- Where the bits of heap blocks stand in the map.
use Rattle.std.proofs.Common.{◌≡◌, ℕ, ◌<◌, ◌≤◌, List, true, sym, ◌∙◌, ap, arith}
use Rattle.std.specs.Prelude.{if◌then◌else◌}
use Rattle.page_layout.specs.Edits.{init_bytes}
use Rattle.page_masks.specs.Kind.{is_zero}
use Rattle.storage_pages.specs.MapPage.{started_map}
use Rattle.storage_replay.specs.MapBits.{map_byte, map_page, map_pair}

-- 32672 is a multiple of 4, so that a block's pair is its rest in its page's
pub one_place : (a b : ℕ) → map_page a ≡ map_page b → map_byte a ≡ map_byte b → map_pair a ≡ map_pair b → a ≡ b
one_place a b page at pair = omega arith

pub within_page : (block : ℕ) → (24 ≤ map_byte block) × (map_byte block < 8192) × (map_pair block < 4)
within_page block = (omega arith, omega arith, omega arith)

-- an empty page is what a page of zeros counts as
pub started_zero : (p r : List ℕ) → is_zero p ≡ true → r ≡ init_bytes 0 → r ≡ started_map p
started_zero p r zero e = e ∙ ap (λ b. if b then init_bytes 0 else p) (sym zero)
