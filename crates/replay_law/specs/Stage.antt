-- A block in the life of the server that wrote the log, and which states fit that life. Own: "The law of one block".
use Rattle.std.specs.Prelude.{ℕ, zero, suc, ◌⊎◌, List, [], ◌∷◌, Option, Some, None, Ok, Err}
use Rattle.page_masks.specs.Law.{PageView, SamePage, Redone}
use Rattle.replay_law.specs.Effect.{Effect, Nothing, FullPageImage, Init, Change, Gone, Step, At}

-- the page made; a refusal leaves the old state
abbrev pub made_or : Option (List ℕ) → Redone → Option (List ℕ)
made_or old (Ok page) = Some page
made_or old (Err why) = old

-- a change of a page; of no page it leaves none
abbrev pub changed_by : (List ℕ → Redone) → Option (List ℕ) → Option (List ℕ)
changed_by change None = None
changed_by change (Some page) = made_or (Some page) (change page)

-- what a record leaves of the block, whatever the LSN of its page
abbrev pub next_stage : Option (List ℕ) → Effect → Option (List ℕ)
next_stage state Nothing = state
next_stage state (FullPageImage page) = page
next_stage state (Init made) = made_or state made
next_stage state (Change change) = changed_by change state
next_stage state Gone = None

-- stage k is what the first k records leave of the base's state; past the log's end it is the last one
abbrev pub stage : Option (List ℕ) → List Step → ℕ → Option (List ℕ)
stage base log zero = base
stage base [] (suc k) = base
stage base (At end effect ∷ log) (suc k) = stage (next_stage base effect) log k

-- both are no page, or pages with equal LSN and equal masks
abbrev pub Matches : PageView → Option (List ℕ) → Option (List ℕ) → Type 0
Matches v None None = Unit {0}
Matches v (Some p) (Some q) = SamePage v p q
Matches v None (Some q) = ⊥
Matches v (Some p) None = ⊥

-- the first effect is an image, a page made, or that the block is gone: what stood there doesn't count
abbrev pub BeginsAnew : List Step → Type 0
BeginsAnew [] = ⊥
BeginsAnew (At end Nothing ∷ log) = BeginsAnew log
BeginsAnew (At end (FullPageImage page) ∷ log) = Unit {0}
BeginsAnew (At end (Init made) ∷ log) = Unit {0}
BeginsAnew (At end (Change change) ∷ log) = ⊥
BeginsAnew (At end Gone ∷ log) = Unit {0}

-- a state fits a base under a log where it matches a stage, or where the log begins anew
abbrev pub Fits : PageView → Option (List ℕ) → Option (List ℕ) → List Step → Type 0
Fits v base state log = ((k : ℕ) × Matches v (stage base log k) state) ⊎ BeginsAnew log
