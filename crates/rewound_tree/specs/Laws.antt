-- What follows from the definitions, for callers.
use Rattle.std.specs.Prelude.{◌≡◌, ℕ, ◌+◌, ◌*◌, ◌%◌, ◌≤◌, Bool, ◌||◌, nat_le, List, length, take, drop, if◌then◌else◌}
use Rattle.rewound_tree.specs.Mixed.{mixed}

-- a block of a file
abbrev pub block_of : ℕ → List ℕ → List ℕ
block_of block bytes = take 8192 (drop (8192 * block) bytes)

-- over a target's file of whole blocks, each whole block of the source's file is the source's where it is wanted or past the
-- target's file, else the target's
abbrev pub BlocksAreOfOneSide : Type 0
BlocksAreOfOneSide = (wanted : ℕ → Bool) (old new : List ℕ) (block : ℕ) → length old % 8192 ≡ 0 → 8192 * block + 8192 ≤ length new →
    block_of block (mixed wanted old new) ≡ (if wanted block || nat_le (length old) (8192 * block) then block_of block new else block_of block old)

abbrev pub MixedIsAsLong : Type 0
MixedIsAsLong = (wanted : ℕ → Bool) (old new : List ℕ) → length (mixed wanted old new) ≡ length new
