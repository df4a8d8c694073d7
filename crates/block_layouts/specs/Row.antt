-- Items in a row: so many of them, each where the one before it has ended.
use Rattle.std.specs.Prelude.{ℕ, zero, suc, Bool, List, [], ◌∷◌, Option, Some, None, if◌then◌else◌}

-- The bytes, and the place of an item in them, give the item and the place behind it. A place is an offset, or what
-- else tells where an item stands.
module _ {P X : Type 0} (item_at : List ℕ → P → X) (behind : List ℕ → P → P) where
  -- so many items, the first at a place
  abbrev pub row_of : ℕ → List ℕ → P → List X
  row_of zero bytes at = []
  row_of (suc n) bytes at = item_at bytes at ∷ row_of n bytes (behind bytes at)

module _ {P : Type 0} (behind : List ℕ → P → P) where
  -- the place behind so many items
  abbrev pub end_of : ℕ → List ℕ → P → P
  end_of zero bytes at = at
  end_of (suc n) bytes at = end_of n bytes (behind bytes at)

module _ {P : Type 0} (stands : List ℕ → P → Bool) (behind : List ℕ → P → P) where
  -- the same, where each of them is there
  abbrev pub whole_end : ℕ → List ℕ → P → Option P
  whole_end zero bytes at = Some at
  whole_end (suc n) bytes at = if stands bytes at then whole_end n bytes (behind bytes at) else None
