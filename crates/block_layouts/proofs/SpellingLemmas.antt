-- Rows of values that are joined.
use Rattle.std.proofs.Common.{◌≡◌, ◌+◌, ◌++◌, ℕ, List, [], ◌∷◌, subst, arith}
use Rattle.layout.specs.declared.value.Value.{Value}
use Rattle.layout.specs.Values.{width}
use Rattle.layout_readers.specs.Rows.{StandFrom, row_width}

pub width_append : (xs ys : List Value) → row_width (xs ++ ys) ≡ row_width xs + row_width ys
width_append [] ys = omega arith
width_append (x ∷ xs) ys = let e = width_append xs ys in omega (arith, e)

pub stand_at : (values : List Value) (bytes : List ℕ) (from to : ℕ) → from ≡ to → StandFrom values from bytes → StandFrom values to bytes
stand_at values bytes from to e stand = subst (λ (k : ℕ). StandFrom values k bytes) e stand

pub stand_joined : (xs ys : List Value) (at : ℕ) (bytes : List ℕ) → StandFrom xs at bytes → StandFrom ys (at + row_width xs) bytes → StandFrom (xs ++ ys) at bytes
stand_joined [] ys at bytes first rest = stand_at ys bytes (at + 0) at (omega arith) rest
stand_joined (x ∷ xs) ys at bytes first rest =
    (first.0, stand_joined xs ys (at + width x) bytes first.1 (stand_at ys bytes (at + (width x + row_width xs)) (at + width x + row_width xs) (omega arith) rest))

pub stand_parted : (xs ys : List Value) (at : ℕ) (bytes : List ℕ) → StandFrom (xs ++ ys) at bytes → StandFrom xs at bytes × StandFrom ys (at + row_width xs) bytes
stand_parted [] ys at bytes stand = (tt, stand_at ys bytes at (at + 0) (omega arith) stand)
stand_parted (x ∷ xs) ys at bytes stand =
    let r = stand_parted xs ys (at + width x) bytes stand.1 in
    ((stand.0, r.0), stand_at ys bytes (at + width x + row_width xs) (at + (width x + row_width xs)) (omega arith) r.1)
