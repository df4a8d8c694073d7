-- The induction over the log of one block.
use Rattle.std.proofs.Common.{◌≡◌, ℕ, inl, inr, ⊎_elim, List, [], ◌∷◌, Bool, true, false, Option, Result, Ok, Err, length, refl, sym, subst}
use Rattle.page_layout.specs.declared.refusal.RedoWhy.{RedoWhy}
use Rattle.page_masks.specs.Law.{PageView}
use Rattle.replay_law.specs.Effect.{Step, At}
use Rattle.replay_law.specs.Replay.{Held, found, replay_on, replay_block}
use Rattle.replay_law.specs.Stage.{next_stage, stage, Fits}
use Rattle.replay_law.specs.Premises.{EndsRise, IsState, IsNoNewer, AreEffects, RunsOn, IsHistory}
use Rattle.replay_law.specs.Law.{EndsAs, AreAlike, EndAlike}
use Rattle.replay_law.proofs.Stages.{matches_both, from_number}
use Rattle.replay_law.proofs.Ages.{state_next, old_next}
use Rattle.replay_law.proofs.OneStep.{Kept, one_step}

not_true : (b : Bool) → (b ≡ true → ⊥) → b ≡ false
not_true true h = absurd (h refl)
not_true false h = refl

runs_to : (v : PageView) (low : ℕ) (log : List Step) (now : Option (List ℕ)) (held : Held)
    → EndsRise low log → AreEffects v log → IsNoNewer v low now → IsState v now → RunsOn v now log → Kept v now held.page held.skipped log
    → EndsAs v (stage now log (length log)) (replay_block v held log)
runs_to v low [] now held rises effects old state runs kept = (not_true held.skipped kept.goes, ⊎_elim (λ m. m) (λ none. absurd none) kept.fits)
runs_to v low (At end effect ∷ log) now held rises effects old state runs kept =
    let steps = one_step v low end effect log now held.page held.skipped rises.0 effects.0 rises.1 effects.1 runs.0 runs.1 old state kept in
    subst (λ r. EndsAs v (stage (next_stage now effect) log (length log)) (replay_on v r log)) (sym steps.is)
    (runs_to v end log (next_stage now effect) steps.after rises.1 effects.1 (old_next v low end effect now rises.0 effects.0 runs.0 state old) (state_next v end effect now effects.0 runs.0 state) runs.1 steps.kept)

pub ends : (v : PageView) (redo : ℕ) (base state : Option (List ℕ)) (log : List Step) → IsHistory v redo base log → IsState v state → Fits v base state log
    → EndsAs v (stage base log (length log)) (replay_block v (found state) log)
ends v redo base state log is page fits =
    runs_to v redo log base (found state) is.rises is.effects is.old is.page is.runs
    (record { fits = ⊎_elim (λ m. inl (from_number v base state log m.0 m.1)) (λ anew. inr anew) fits; state = page; goes = λ e. cc e })

joined : (v : PageView) (last : Option (List ℕ)) (a b : Result Held RedoWhy) → EndsAs v last a → EndsAs v last b → AreAlike v a b
joined v last (Ok a) (Ok b) p q = (p.0, q.0, matches_both v last a.page b.page p.1 q.1)
joined v last (Err w) b p q = absurd p
joined v last (Ok a) (Err w) p q = absurd q

pub alike : (v : PageView) (redo : ℕ) (base a b : Option (List ℕ)) (log : List Step) → IsHistory v redo base log → IsState v a → IsState v b → Fits v base a log → Fits v base b log
    → EndAlike v a b log
alike v redo base a b log is page_a page_b fits_a fits_b =
    joined v (stage base log (length log)) (replay_block v (found a) log) (replay_block v (found b) log)
    (ends v redo base a log is page_a fits_a) (ends v redo base b log is page_b fits_b)
