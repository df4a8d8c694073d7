-- A main fork's file that both clusters have, block by block: PostgreSQL 16, src/bin/pg_rewind/filemap.c, decide_file_action.
use Rattle.std.specs.Prelude.{ℕ, ◌+◌, ◌*◌, ◌-◌, ◌/◌, ◌^◌, Bool, ◌||◌, nat_le, List, length, map, min, slice_index, if◌then◌else◌}
use Rattle.std.specs.List.{range_with_len}
use Rattle.block_refs.specs.declared.names.RelName.{RelName}

-- a block past all numbers is touched where the last one is
abbrev pub capped : ℕ → ℕ
capped block = min block (2 ^ 32 - 1)

-- whether a block of a segment is touched, where segments have so many blocks
abbrev pub is_wanted : (RelName → ℕ → Bool) → (relseg : ℕ) → RelName → (segment : ℕ) → ℕ → Bool
is_wanted touched relseg rel segment block = touched rel (capped (segment * relseg + block))

-- the byte of a file at a place: the source's in a wanted block and past the target's file, else the target's
abbrev pub mixed_byte : (wanted : ℕ → Bool) → (old new : List ℕ) → ℕ → ℕ
mixed_byte wanted old new at = if wanted (at / 8192) || nat_le (length old) at then slice_index new at else slice_index old at

-- as long as the source's file
unfoldable pub mixed : (wanted : ℕ → Bool) → (old new : List ℕ) → List ℕ
mixed wanted old new = map (mixed_byte wanted old new) (range_with_len 0 (length new))
