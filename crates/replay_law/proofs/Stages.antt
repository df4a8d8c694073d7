-- A state that matches a stage: from this one on, and by number.
use Rattle.std.proofs.Common.{ℕ, zero, suc, ◌⊎◌, inl, inr, List, [], ◌∷◌, Option, Some, None, refl, sym, ◌∙◌}
use Rattle.page_masks.specs.Law.{PageView}
use Rattle.replay_law.specs.Effect.{Step, At}
use Rattle.replay_law.specs.Stage.{next_stage, stage, Matches}

pub matches_self : (v : PageView) (s : Option (List ℕ)) → Matches v s s
matches_self v None = tt
matches_self v (Some p) = record { lsn = refl; mask = refl }

-- two states that match one match each other
pub matches_both : (v : PageView) (s a b : Option (List ℕ)) → Matches v s a → Matches v s b → Matches v a b
matches_both v None None None p q = tt
matches_both v (Some s) (Some a) (Some b) p q = record { lsn = sym p.lsn ∙ q.lsn; mask = sym p.mask ∙ q.mask }
matches_both v None (Some a) b p q = absurd p
matches_both v None None (Some b) p q = absurd q
matches_both v (Some s) None b p q = absurd p
matches_both v (Some s) (Some a) None p q = absurd q

-- this stage or a later one
abbrev pub MatchesFrom : PageView → Option (List ℕ) → Option (List ℕ) → List Step → Type 0
MatchesFrom v now state [] = Matches v now state
MatchesFrom v now state (At end effect ∷ log) = Matches v now state ⊎ MatchesFrom v (next_stage now effect) state log

pub here : (v : PageView) (now state : Option (List ℕ)) (log : List Step) → Matches v now state → MatchesFrom v now state log
here v now state [] m = m
here v now state (At end effect ∷ log) m = inl m

pub from_number : (v : PageView) (base state : Option (List ℕ)) (log : List Step) (k : ℕ) → Matches v (stage base log k) state → MatchesFrom v base state log
from_number v base state log zero m = here v base state log m
from_number v base state [] (suc k) m = m
from_number v base state (At end effect ∷ log) (suc k) m = inr (from_number v (next_stage base effect) state log k m)
