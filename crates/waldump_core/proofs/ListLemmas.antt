-- The first items of a list that pass a test.
use Rattle.std.proofs.Common.{◌≡◌, Bool, true, false, cond, List, [], ◌∷◌, ap, ◌∙◌}
use Rattle.std.specs.List.{take_while}
use Rattle.std.proofs.lemmas.List.Sums.{take_while-cons}

pub kept_first : {X : Type 0} (test : X → Bool) (x : X) (xs : List X) → test x ≡ true → take_while test (x ∷ xs) ≡ x ∷ take_while test xs
kept_first {X} test x xs is = take_while-cons test x xs ∙ ap (λ (b : Bool). cond {A = List X} b (x ∷ take_while test xs) []) is

pub kept_none : {X : Type 0} (test : X → Bool) (x : X) (xs : List X) → test x ≡ false → take_while test (x ∷ xs) ≡ []
kept_none {X} test x xs is = take_while-cons test x xs ∙ ap (λ (b : Bool). cond {A = List X} b (x ∷ take_while test xs) []) is
