-- A new tuple's bytes.
use Rattle.std.proofs.Common.{◌≡◌, ℕ, ◌+◌, ◌≤◌, List, ◌++◌, length, take, drop, ◌∙◌, ap, arith}
use Rattle.std.proofs.lemmas.List.{length-append, take_at}
use Rattle.layout.specs.Splice.{splice}
use Rattle.layout.proofs.SpliceLemmas.{splice-splice}
use Rattle.block_layouts.specs.Tuple.{TupleView}
use Rattle.heap_pages.specs.NewTuple.{new_header, new_tuple}

-- what was laid at the front
pub front_is : (z bs : List ℕ) (n : ℕ) → length bs ≡ n → take n (splice z 0 bs) ≡ bs
unfolding splice
front_is z bs n size = take_at bs (drop (0 + length bs) z) n size

-- bytes laid at the front, and others behind them
pub two_fronts : (z a b : List ℕ) (i n : ℕ) → length a ≡ i → i + length b ≡ n → n ≤ length z → take n (splice (splice z 0 a) i b) ≡ a ++ b
two_fronts z a b i n size whole fits =
    ap (take n) (splice-splice z 0 a b i (omega (arith, size)) (omega (arith, whole, fits))) ∙ front_is z (a ++ b) n (omega (arith, length-append a b, size, whole))

pub new_tuple_length : (xmin xmax block place : ℕ) (tuple : TupleView) → length (new_tuple xmin xmax block place tuple) ≡ 23 + length tuple.bytes
new_tuple_length xmin xmax block place tuple = length-append (new_header xmin xmax block place tuple.header) tuple.bytes
