-- Second views of what is read: lists by their numbers, and rows of tuples by what they spell.
use Rattle.std.specs.Prelude.{ℕ, ◌≡◌, ◌≤◌, ◌<◌, ◌+◌, ◌*◌, ◌||◌, Bool, true, false, List, [], ◌∷◌, ◌++◌, length, take, drop, is_some}
use Rattle.std.specs.Option.{option_to_list}
use Rattle.std.specs.List.{AllByRecursion, concat}
use Rattle.block_layouts.specs.declared.prune.PrunePlaces.{PrunePlaces}
use Rattle.block_layouts.specs.declared.update.OldParts.{OldParts}
use Rattle.layout.specs.Readers.{u16_at}
use Rattle.block_layouts.specs.Tuple.{TupleView, header_at}
use Rattle.block_layouts.specs.MultiInsert.{even}
use Rattle.block_layouts.specs.Split.{SplitView}
use Rattle.block_layouts.specs.Update.{UpdateView, header_place}
use Rattle.block_layouts.specs.IndexTuples.{told_size, item_size}

-- An index tuple as its bytes: it has a header of eight bytes, and as many bytes as the size above 0 in it tells,
-- rounded up to 8.
pub record IsIndexTuple (tuple : List ℕ) : Type 0 where
  pub header : 8 ≤ length tuple
  pub told : 0 < told_size tuple 0
  pub size : length tuple ≡ item_size tuple 0

-- the bytes are index tuples, one behind another, and nothing else
pub record AreIndexTuples (bytes : List ℕ) (tuples : List (List ℕ)) : Type 0 where
  pub joined : concat tuples ≡ bytes
  pub each : AllByRecursion IsIndexTuple tuples

-- a heap tuple stands at an offset: the length of its bytes, its header, its bytes
pub record IsTupleAt (bytes : List ℕ) (at : ℕ) (tuple : TupleView) : Type 0 where
  pub room : at + 7 + length tuple.bytes ≤ length bytes
  pub size : u16_at at bytes ≡ length tuple.bytes
  pub header : header_at (at + 2) bytes ≡ tuple.header
  pub body : take (length tuple.bytes) (drop (at + 7) bytes) ≡ tuple.bytes

-- heap tuples from an offset on, each at an even one, and nothing behind them
abbrev pub AreTuplesFrom : List ℕ → ℕ → List TupleView → Type 0
AreTuplesFrom bytes at [] = at ≡ length bytes
AreTuplesFrom bytes at (tuple ∷ tuples) =
    IsTupleAt bytes (even at) tuple × AreTuplesFrom bytes (even at + 7 + length tuple.bytes) tuples

-- The new tuple of an update is the bytes behind its header, of which the bitmap reaches to its hoff where it has a part
-- of the old tuple; the lengths of the parts that it hasn't are 0.
pub record HoldsUpdate (parts : OldParts) (bytes : List ℕ) (tuple : UpdateView) : Type 0 where
  pub joined : tuple.bitmap ++ tuple.bytes ≡ drop (header_place parts + 5) bytes
  pub whole : parts.prefix || parts.suffix ≡ false → tuple.bitmap ≡ []
  pub pieces : parts.prefix || parts.suffix ≡ true → 23 + length tuple.bitmap ≡ tuple.header.hoff
  pub no_prefix : parts.prefix ≡ false → tuple.prefix ≡ 0
  pub no_suffix : parts.suffix ≡ false → tuple.suffix ≡ 0

-- a prune has so many pairs and dead places, and unused places as long as there are two bytes for one
pub record HoldsPrune (pairs singles : ℕ) (bytes : List ℕ) (places : PrunePlaces) : Type 0 where
  pub redirected : length places.redirected ≡ pairs
  pub dead : length places.dead ≡ singles
  pub within : 4 * pairs + 2 * singles + 2 * length places.unused ≤ length bytes
  pub all : length bytes < 4 * pairs + 2 * singles + 2 * length places.unused + 2

-- the new tuple, where there is one, and then the high key
abbrev pub split_row : SplitView → List (List ℕ)
split_row split = option_to_list split.new_tuple ++ split.high_key ∷ []

-- the bytes begin with them, and each is an index tuple
pub record HoldsSplit (with_new : Bool) (bytes : List ℕ) (split : SplitView) : Type 0 where
  pub new : is_some split.new_tuple ≡ with_new
  pub each : AllByRecursion IsIndexTuple (split_row split)
  pub joined : concat (split_row split) ++ drop (length (concat (split_row split))) bytes ≡ bytes
