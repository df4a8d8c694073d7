-- Places taken one by one.
use Rattle.std.proofs.Common.{◌≡◌, ℕ, zero, suc, ◌+◌, List, [], ◌∷◌, Some, None, drop, drop-cons, refl, ◌∙◌, arith}
use Rattle.std.specs.List.{slice_get}
use Rattle.std.proofs.lemmas.Option.{slice_get_within, get_or_from_slice_get}

pub next_place : (places : List ℕ) (i place : ℕ) → slice_get places i ≡ Some place → drop i places ≡ place ∷ drop (i + 1) places
next_place places i place e =
    let step : suc i ≡ i + 1 = omega arith in
    drop-cons places i place (slice_get_within places i place e) ∙ (λ t. get_or_from_slice_get places i place place e t ∷ drop (step t) places)

pub no_place : (places : List ℕ) (i : ℕ) → slice_get places i ≡ None → drop i places ≡ []
no_place [] zero e = refl
no_place [] (suc i) e = refl
no_place (x ∷ xs) zero e = cc e
no_place (x ∷ xs) (suc i) e = no_place xs i e
