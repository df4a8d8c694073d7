-- Tuples of a MULTI_INSERT.
use Rattle.std.proofs.Common.{◌≡◌, ℕ, ◌+◌, ◌-◌, ◌<◌, ◌≤◌, true, List, ◌∷◌, length, take, drop, arith, leb}
use Rattle.std.proofs.lemmas.Bool.{and_parts}
use Rattle.std.proofs.lemmas.Bool.Decides.{nat_tests}
use Rattle.layout.specs.Readers.{u16_at}
use Rattle.block_layouts.specs.declared.tuple.TupleHeader.{TupleHeader}
use Rattle.block_layouts.specs.Tuple.{TupleView, header_at}
use Rattle.block_layouts.specs.MultiInsert.{even, tuple_at, tuple_behind, tuple_stands, tuples_from}
use Rattle.block_layouts.proofs.RowLemmas.{row_of-next}

-- what it is that a tuple is there
pub record HasTuple (bytes : List ℕ) (at : ℕ) : Type 0 where
  pub front : even at + 7 ≤ length bytes
  pub whole : tuple_behind bytes at ≤ length bytes

pub tuple_stands-facts : (bytes : List ℕ) (at : ℕ) → tuple_stands bytes at ≡ true → HasTuple bytes at
tuple_stands-facts bytes at e =
    let p = and_parts (leb (even at + 7) (length bytes)) (leb (tuple_behind bytes at) (length bytes)) e in
    record { front = grind (arith, nat_tests, p.0); whole = grind (arith, nat_tests, p.1) }

abbrev pub with_parts : TupleHeader → List ℕ → TupleView
with_parts header bytes = record { header = header; bytes = bytes }

-- the first tuple, as the code cuts it out
pub tuples_from-next : (n : ℕ) (bytes : List ℕ) (at front size : ℕ) (header : TupleHeader) → 0 < n → front ≡ even at → size ≡ u16_at (even at) bytes → header ≡ header_at (even at + 2) bytes
    → tuples_from n bytes at ≡ with_parts header (take (front + 7 + size - (front + 7)) (drop (front + 7) bytes)) ∷ tuples_from (n - 1) bytes (front + 7 + size)
tuples_from-next n bytes at front size header some front-is size-is header-is =
    let cut : even at + 7 + u16_at (even at) bytes - (even at + 7) ≡ u16_at (even at) bytes = omega arith in
    rw (front-is, size-is, header-is, cut) (row_of-next tuple_at tuple_behind n bytes at some)
