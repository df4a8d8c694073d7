-- How replay of a block ends. Own: "The law of one block".
use Rattle.std.specs.Prelude.{◌≡◌, List, ℕ, false, Option, Result, Ok, Err}
use Rattle.page_layout.specs.declared.refusal.RedoWhy.{RedoWhy}
use Rattle.page_masks.specs.Law.{PageView}
use Rattle.replay_law.specs.Effect.{Step}
use Rattle.replay_law.specs.Replay.{Held, found, replay_block}
use Rattle.replay_law.specs.Stage.{Matches}

-- with no refusal, no skipped change, and a state that matches this one
abbrev pub EndsAs : PageView → Option (List ℕ) → Result Held RedoWhy → Type 0
EndsAs v state (Ok held) = (held.skipped ≡ false) × Matches v state held.page
EndsAs v state (Err why) = ⊥

-- both with no refusal and no skipped change, and with states that match
abbrev pub AreAlike : PageView → Result Held RedoWhy → Result Held RedoWhy → Type 0
AreAlike v (Ok a) (Ok b) = (a.skipped ≡ false) × (b.skipped ≡ false) × Matches v a.page b.page
AreAlike v (Ok a) (Err why) = ⊥
AreAlike v (Err why) answer = ⊥

-- replay of the log ends alike from both states
abbrev pub EndAlike : PageView → Option (List ℕ) → Option (List ℕ) → List Step → Type 0
EndAlike v a b log = AreAlike v (replay_block v (found a) log) (replay_block v (found b) log)
