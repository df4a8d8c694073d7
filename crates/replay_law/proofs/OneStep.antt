-- One record: the answer is Ok, and what is kept before it is kept after it.
use Rattle.std.proofs.Common.{◌≡◌, ℕ, ◌<◌, ◌≤◌, ◌⊎◌, inl, inr, ⊎_elim, List, ◌∷◌, Bool, true, false, Option, Some, None, Result, Ok, Err, refl, sym, ap, subst, arith}
use Rattle.std.proofs.lemmas.Bool.{lt-ltb, le-ltb}
use Rattle.page_layout.specs.declared.refusal.RedoWhy.{RedoWhy}
use Rattle.page_masks.specs.Law.{PageView, Redone, SamePage, SameAnswer, IsChange}
use Rattle.replay_law.specs.Effect.{Effect, Nothing, FullPageImage, Init, Change, Gone, Step, At}
use Rattle.replay_law.specs.Replay.{Held, with_page, after_change, replay_step}
use Rattle.replay_law.specs.Stage.{made_or, next_stage, Matches, BeginsAnew}
use Rattle.replay_law.specs.Premises.{EndsRise, IsState, IsNoNewer, IsEffect, AreEffects, IsCarriedOut, Suits, RunsOn}
use Rattle.replay_law.proofs.Stages.{matches_self, MatchesFrom, here}
use Rattle.replay_law.proofs.Ages.{state_next, from_new}
use Rattle.replay_law.proofs.GoneAhead.{GoneAhead, must_go}

-- the state matches this stage or a later one, or the log begins anew; and a block with a skipped change goes later
pub record Kept (v : PageView) (now page : Option (List ℕ)) (skipped : Bool) (log : List Step) : Type 0 where
  pub fits : MatchesFrom v now page log ⊎ BeginsAnew log
  pub state : IsState v page
  pub goes : skipped ≡ true → GoneAhead log

pub record StepsOn (v : PageView) (now : Option (List ℕ)) (answer : Result Held RedoWhy) (log : List Step) : Type 0 where
  pub after : Held
  pub is : answer ≡ Ok after
  pub kept : Kept v now after.page after.skipped log

-- what comes before the first effect is passed by
pass_by : (v : PageView) (end : ℕ) (now state : Option (List ℕ)) (log : List Step) → MatchesFrom v now state (At end Nothing ∷ log) ⊎ BeginsAnew (At end Nothing ∷ log) → MatchesFrom v now state log ⊎ BeginsAnew log
pass_by v end now state log (inl (inl m)) = inl (here v now state log m)
pass_by v end now state log (inl (inr m)) = inl m
pass_by v end now state log (inr anew) = inr anew

record SameOk (v : PageView) (q : List ℕ) (b : Redone) : Type 0 where
  made : List ℕ
  is : b ≡ Ok made
  same : SamePage v q made

same_ok : (v : PageView) (a b : Redone) (q : List ℕ) → a ≡ Ok q → SameAnswer v a b → SameOk v q b
same_ok v (Ok p) (Ok s) q e same =
    let pq : p ≡ q = cc in
    record { made = s; is = refl; same = subst (λ x. SamePage v x s) pq same }
same_ok v (Ok p) (Err b) q e same = absurd same
same_ok v (Err a) b q e same = cc e

change_steps : (v : PageView) (low end : ℕ) (f : List ℕ → Redone) (log : List Step) (p : List ℕ) (page : Option (List ℕ)) (skipped : Bool)
    → low < end → IsChange v end f → EndsRise end log → AreEffects v log → (ok : IsCarriedOut v f (Some p)) → RunsOn v (Some ok.1.0) log → v.lsn p ≤ low
    → Matches v (Some p) page ⊎ MatchesFrom v (Some ok.1.0) page log → IsState v page → IsState v (Some p) → (skipped ≡ true → GoneAhead log)
    → StepsOn v (Some ok.1.0) (after_change v end f skipped page) log
change_steps v low end f log p None skipped lt is rises effects ok runs old (inl m) state now ahead = absurd m
change_steps v low end f log p None skipped lt is rises effects ok runs old (inr m) state now ahead = record {
  after = record { page = None; skipped = true };
  is = refl;
  kept = record { fits = inl m; state = tt; goes = λ e. must_go v ok.1.0 log runs m };
}
change_steps v low end f log p (Some r) skipped lt is rises effects ok runs old (inl m) state now ahead =
    let same = same_ok v (f p) (f r) ok.1.0 ok.1.1 (is.mask p r now state ok.0 m) in
    let older : v.lsn r < end = omega (arith, m.lsn) in
    record {
      after = record { page = Some same.made; skipped = skipped };
      is = rw (lt-ltb (v.lsn r) end older) (ap (with_page skipped) same.is);
      kept = record { fits = inl (here v (Some ok.1.0) (Some same.made) log same.same); state = is.page r same.made state same.is; goes = ahead };
    }
change_steps v low end f log p (Some r) skipped lt is rises effects ok runs old (inr m) state now ahead =
    let at : v.lsn ok.1.0 ≡ end = is.lsn p ok.1.0 now ok.1.1 in
    let new : end ≤ v.lsn ok.1.0 = omega arith in
    let newer : end ≤ v.lsn r = from_new v end (Some ok.1.0) r log rises effects runs (is.page p ok.1.0 now ok.1.1) new m in
    record {
      after = record { page = Some r; skipped = skipped };
      is = rw (le-ltb (v.lsn r) end newer) refl;
      kept = record { fits = inl m; state = state; goes = ahead };
    }

pub one_step : (v : PageView) (low end : ℕ) (effect : Effect) (log : List Step) (now page : Option (List ℕ)) (skipped : Bool)
    → low < end → IsEffect v end effect → EndsRise end log → AreEffects v log → Suits v now effect → RunsOn v (next_stage now effect) log → IsNoNewer v low now → IsState v now
    → Kept v now page skipped (At end effect ∷ log)
    → StepsOn v (next_stage now effect) (replay_step v (record { page = page; skipped = skipped }) end effect) log
one_step v low end Nothing log now page skipped lt is rises effects suits runs old state kept = record {
  after = record { page = page; skipped = skipped };
  is = refl;
  kept = record { fits = pass_by v end now page log kept.fits; state = kept.state; goes = kept.goes };
}
one_step v low end (FullPageImage made) log now page skipped lt is rises effects suits runs old state kept = record {
  after = record { page = made; skipped = skipped };
  is = refl;
  kept = record { fits = inl (here v made made log (matches_self v made)); state = state_next v end (FullPageImage made) now is suits state; goes = kept.goes };
}
one_step v low end (Init (Ok made)) log now page skipped lt is rises effects suits runs old state kept = record {
  after = record { page = Some made; skipped = skipped };
  is = refl;
  kept = record { fits = inl (here v (Some made) (Some made) log (matches_self v (Some made))); state = is.page; goes = kept.goes };
}
one_step v low end (Init (Err why)) log now page skipped lt is rises effects suits runs old state kept = absurd suits
one_step v low end Gone log now page skipped lt is rises effects suits runs old state kept = record {
  after = record { page = None; skipped = false };
  is = refl;
  kept = record { fits = inl (here v None None log tt); state = tt; goes = λ e. cc e };
}
one_step v low end (Change f) log None page skipped lt is rises effects suits runs old state kept = absurd suits
one_step v low end (Change f) log (Some p) page skipped lt is rises effects suits runs old state kept =
    let at : next_stage (Some p) (Change f) ≡ Some suits.1.0 = ap (made_or (Some p)) suits.1.1 in
    let steps = change_steps v low end f log p page skipped lt is rises effects suits (subst (λ s. RunsOn v s log) at runs) old
    (⊎_elim (λ m. ⊎_elim (λ n. inl n) (λ n. inr (subst (λ s. MatchesFrom v s page log) at n)) m) (λ none. absurd none) kept.fits) kept.state state kept.goes in
    subst (λ s. StepsOn v s (after_change v end f skipped page) log) (sym at) steps
