-- The bytes before the first that passes a test.
use Rattle.std.proofs.Common.{◌≡◌, ℕ, ◌≤◌, Bool, true, false, cond, List, Some, None, length, take, nat_lt, ap, sym, arith}
use Rattle.std.specs.List.{before_first, position, position_or_len}
use Rattle.std.proofs.lemmas.Bool.Decides.{nat_tests}
use Rattle.std.proofs.lemmas.List.{take_all}

some_place : (b : Bool) (n i : ℕ) → Some i ≡ cond b (Some n) None → i ≡ n
some_place true n i h = cc
some_place false n i h = absurd cc

no_place : (b : Bool) (n : ℕ) → None ≡ cond b (Some n) None → b ≡ false
no_place true n h = absurd cc
no_place false n h = cc

pub taken_to_zero : {X : Type 0} (p : X → Bool) (xs : List X) (i : ℕ) → Some i ≡ position p xs → take i xs ≡ before_first p xs
taken_to_zero p xs i h = ap (λ n. take n xs) (some_place (nat_lt (position_or_len p xs) (length xs)) (position_or_len p xs) i h)

pub no_zero : {X : Type 0} (p : X → Bool) (xs : List X) → None ≡ position p xs → xs ≡ before_first p xs
no_zero p xs h =
    let past : nat_lt (position_or_len p xs) (length xs) ≡ false = no_place (nat_lt (position_or_len p xs) (length xs)) (position_or_len p xs) h in
    let long : length xs ≤ position_or_len p xs = grind (arith, nat_tests) in
    sym (take_all (position_or_len p xs) xs long)
