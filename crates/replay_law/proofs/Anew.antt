-- What stood there doesn't count where the log begins anew; and a log without a change.
use Rattle.std.proofs.Common.{◌≡◌, ℕ, List, [], ◌∷◌, Bool, Option, Some, None, Ok, Err, length, refl, subst}
use Rattle.page_masks.specs.Law.{PageView}
use Rattle.replay_law.specs.Effect.{Nothing, FullPageImage, Init, Change, Gone, Step, At}
use Rattle.replay_law.specs.Replay.{Held, found, replay_block}
use Rattle.replay_law.specs.Stage.{stage, BeginsAnew}
use Rattle.replay_law.specs.Premises.{HasNoChange}

pub anew : (v : PageView) (a b : Option (List ℕ)) (skipped : Bool) (log : List Step) → BeginsAnew log
    → replay_block v (record { page = a; skipped = skipped }) log ≡ replay_block v (record { page = b; skipped = skipped }) log
anew v a b skipped [] begins = absurd begins
anew v a b skipped (At end Nothing ∷ log) begins = anew v a b skipped log begins
anew v a b skipped (At end (FullPageImage page) ∷ log) begins = refl
anew v a b skipped (At end (Init made) ∷ log) begins = refl
anew v a b skipped (At end (Change f) ∷ log) begins = absurd begins
anew v a b skipped (At end Gone ∷ log) begins = refl

pub anew_same : (v : PageView) (a b : Held) (log : List Step) → a.skipped ≡ b.skipped → BeginsAnew log → replay_block v a log ≡ replay_block v b log
anew_same v a b log same begins =
    subst (λ s. replay_block v a log ≡ replay_block v (record { page = b.page; skipped = s }) log) same (anew v a.page b.page a.skipped log begins)

pub without_change : (v : PageView) (state : Option (List ℕ)) (log : List Step) → HasNoChange log → replay_block v (found state) log ≡ Ok (found (stage state log (length log)))
without_change v state [] none = refl
without_change v state (At end Nothing ∷ log) none = without_change v state log none
without_change v state (At end (FullPageImage page) ∷ log) none = without_change v page log none
without_change v state (At end (Init (Ok page)) ∷ log) none = without_change v (Some page) log none
without_change v state (At end (Init (Err why)) ∷ log) none = absurd none
without_change v state (At end (Change f) ∷ log) none = absurd none
without_change v state (At end Gone ∷ log) none = without_change v None log none
