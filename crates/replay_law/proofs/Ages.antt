-- How new the page of a stage is.
use Rattle.std.proofs.Common.{◌≡◌, ℕ, ◌<◌, ◌≤◌, inl, inr, List, [], ◌∷◌, Option, Some, None, Ok, Err, sym, ap, subst, arith}
use Rattle.page_masks.specs.Law.{PageView}
use Rattle.replay_law.specs.Effect.{Effect, Nothing, FullPageImage, Init, Change, Gone, Step, At}
use Rattle.replay_law.specs.Stage.{made_or, next_stage, Matches}
use Rattle.replay_law.specs.Premises.{EndsRise, IsState, IsNoNewer, IsEffect, AreEffects, Suits, RunsOn}
use Rattle.replay_law.proofs.Stages.{MatchesFrom}

-- no page, or one at least this new
abbrev pub IsNoOlder : PageView → ℕ → Option (List ℕ) → Type 0
IsNoOlder v low None = Unit {0}
IsNoOlder v low (Some page) = low ≤ v.lsn page

new_matches : (v : PageView) (low : ℕ) (now : Option (List ℕ)) (q : List ℕ) → IsNoOlder v low now → Matches v now (Some q) → low ≤ v.lsn q
new_matches v low None q new m = absurd m
new_matches v low (Some p) q new m = omega (arith, m.lsn)

still_old : (v : PageView) (low high : ℕ) (s : Option (List ℕ)) → low ≤ high → IsNoNewer v low s → IsNoNewer v high s
still_old v low high None le old = tt
still_old v low high (Some p) le old = omega arith

pub state_next : (v : PageView) (end : ℕ) (effect : Effect) (now : Option (List ℕ)) → IsEffect v end effect → Suits v now effect → IsState v now → IsState v (next_stage now effect)
state_next v end Nothing now is suits state = state
state_next v end (FullPageImage None) now is suits state = tt
state_next v end (FullPageImage (Some q)) now is suits state = is.page
state_next v end (Init (Ok q)) now is suits state = is.page
state_next v end (Init (Err why)) now is suits state = absurd suits
state_next v end (Change f) None is suits state = tt
state_next v end (Change f) (Some p) is suits state =
    subst (IsState v) (sym (ap (made_or (Some p)) suits.1.1)) (is.page p suits.1.0 state suits.1.1)
state_next v end Gone now is suits state = tt

new_next : (v : PageView) (low end : ℕ) (effect : Effect) (now : Option (List ℕ)) → low ≤ end → IsEffect v end effect → Suits v now effect → IsState v now → IsNoOlder v low now → IsNoOlder v low (next_stage now effect)
new_next v low end Nothing now le is suits state new = new
new_next v low end (FullPageImage None) now le is suits state new = tt
new_next v low end (FullPageImage (Some q)) now le is suits state new = omega (arith, is.lsn)
new_next v low end (Init (Ok q)) now le is suits state new = omega (arith, is.lsn)
new_next v low end (Init (Err why)) now le is suits state new = absurd suits
new_next v low end (Change f) None le is suits state new = tt
new_next v low end (Change f) (Some p) le is suits state new =
    let at : v.lsn suits.1.0 ≡ end = is.lsn p suits.1.0 state suits.1.1 in
    let more : low ≤ v.lsn suits.1.0 = omega arith in
    subst (IsNoOlder v low) (sym (ap (made_or (Some p)) suits.1.1)) more
new_next v low end Gone now le is suits state new = tt

pub old_next : (v : PageView) (low end : ℕ) (effect : Effect) (now : Option (List ℕ)) → low < end → IsEffect v end effect → Suits v now effect → IsState v now → IsNoNewer v low now → IsNoNewer v end (next_stage now effect)
old_next v low end Nothing now lt is suits state old = still_old v low end now (omega arith) old
old_next v low end (FullPageImage None) now lt is suits state old = tt
old_next v low end (FullPageImage (Some q)) now lt is suits state old = omega (arith, is.lsn)
old_next v low end (Init (Ok q)) now lt is suits state old = omega (arith, is.lsn)
old_next v low end (Init (Err why)) now lt is suits state old = absurd suits
old_next v low end (Change f) None lt is suits state old = absurd suits
old_next v low end (Change f) (Some p) lt is suits state old =
    let at : v.lsn suits.1.0 ≡ end = is.lsn p suits.1.0 state suits.1.1 in
    let more : v.lsn suits.1.0 ≤ end = omega arith in
    subst (IsNoNewer v end) (sym (ap (made_or (Some p)) suits.1.1)) more
old_next v low end Gone now lt is suits state old = tt

rise_from : (low end : ℕ) (log : List Step) → low ≤ end → EndsRise end log → EndsRise low log
rise_from low end [] le rises = tt
rise_from low end (At e effect ∷ log) le rises = (omega (arith, rises.0), rises.1)

-- a page that matches a stage from here on is at least as new as this stage and the log to come
pub from_new : (v : PageView) (low : ℕ) (now : Option (List ℕ)) (q : List ℕ) (log : List Step) → EndsRise low log → AreEffects v log → RunsOn v now log → IsState v now → IsNoOlder v low now → MatchesFrom v now (Some q) log → low ≤ v.lsn q
from_new v low now q [] rises effects runs state new m = new_matches v low now q new m
from_new v low now q (At end effect ∷ log) rises effects runs state new (inl m) = new_matches v low now q new m
from_new v low now q (At end effect ∷ log) rises effects runs state new (inr m) =
    let le : low ≤ end = omega (arith, rises.0) in
    from_new v low (next_stage now effect) q log (rise_from low end log le rises.1) effects.1 runs.1
    (state_next v end effect now effects.0 runs.0 state) (new_next v low end effect now le effects.0 runs.0 state new) m
