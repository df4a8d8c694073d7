-- What isn't changed first is untouched, or begins anew.
use Rattle.std.proofs.Common.{◌≡◌, ◌⊎◌, refl, inl, inr, List, [], ◌∷◌, false}
use Rattle.replay_law.specs.Effect.{Step, At, Nothing, FullPageImage, Init, Change, Gone}
use Rattle.replay_law.specs.Stage.{BeginsAnew}
use Rattle.first_effects.specs.First.{is_changed_first, is_met}

pub either : (steps : List Step) → is_changed_first steps ≡ false → (is_met steps ≡ false) ⊎ BeginsAnew steps
either [] e = inl refl
either (At end Nothing ∷ log) e = either log e
either (At end (FullPageImage page) ∷ log) e = inr tt
either (At end (Init made) ∷ log) e = inr tt
either (At end (Change change) ∷ log) e = cc e
either (At end Gone ∷ log) e = inr tt

pub not_first : (steps : List Step) → BeginsAnew steps → is_changed_first steps ≡ false
not_first [] e = absurd e
not_first (At end Nothing ∷ log) e = not_first log e
not_first (At end (FullPageImage page) ∷ log) e = refl
not_first (At end (Init made) ∷ log) e = refl
not_first (At end (Change change) ∷ log) e = absurd e
not_first (At end Gone ∷ log) e = refl
