-- Where a change is skipped, the block goes later: the one use of the premise that no image of zeros falls on a page.
use Rattle.std.proofs.Common.{◌≡◌, ℕ, inl, inr, List, [], ◌∷◌, Some, None, Ok, Err, ap, subst}
use Rattle.page_masks.specs.Law.{PageView}
use Rattle.replay_law.specs.Effect.{Effect, Nothing, FullPageImage, Init, Change, Gone, Step, At}
use Rattle.replay_law.specs.Stage.{made_or, next_stage}
use Rattle.replay_law.specs.Premises.{RunsOn}
use Rattle.replay_law.proofs.Stages.{MatchesFrom}

abbrev GoesBy : Effect → Type 0 → Type 0
GoesBy Nothing rest = rest
GoesBy (FullPageImage page) rest = rest
GoesBy (Init made) rest = rest
GoesBy (Change f) rest = rest
GoesBy Gone rest = Unit {0}

-- some record to come takes the block away
abbrev pub GoneAhead : List Step → Type 0
GoneAhead [] = ⊥
GoneAhead (At end effect ∷ log) = GoesBy effect (GoneAhead log)

-- from a stage with a page to no page there is but that way
pub must_go : (v : PageView) (p : List ℕ) (log : List Step) → RunsOn v (Some p) log → MatchesFrom v (Some p) None log → GoneAhead log
must_go v p [] runs m = m
must_go v p (At end effect ∷ log) runs (inl m) = absurd m
must_go v p (At end Nothing ∷ log) runs (inr m) = must_go v p log runs.1 m
must_go v p (At end (FullPageImage (Some q)) ∷ log) runs (inr m) = must_go v q log runs.1 m
must_go v p (At end (FullPageImage None) ∷ log) runs (inr m) = cc runs.0
must_go v p (At end (Init (Ok q)) ∷ log) runs (inr m) = must_go v q log runs.1 m
must_go v p (At end (Init (Err why)) ∷ log) runs (inr m) = absurd runs.0
must_go v p (At end (Change f) ∷ log) runs (inr m) =
    let q = runs.0.1.0 in
    let is : next_stage (Some p) (Change f) ≡ Some q = ap (made_or (Some p)) runs.0.1.1 in
    must_go v q log (subst (λ s. RunsOn v s log) is runs.1) (subst (λ s. MatchesFrom v s None log) is m)
must_go v p (At end Gone ∷ log) runs (inr m) = tt
