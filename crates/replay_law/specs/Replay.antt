-- Replay of one block: PostgreSQL 16, src/backend/access/transam/xlogutils.c, XLogReadBufferForRedoExtended, log_invalid_page.
use Rattle.std.specs.Prelude.{ℕ, List, [], ◌∷◌, Bool, true, false, Option, Some, None, Result, Ok, Err, nat_lt, if◌then◌else◌}
use Rattle.page_layout.specs.declared.refusal.RedoWhy.{RedoWhy}
use Rattle.page_masks.specs.Law.{PageView, Redone}
use Rattle.replay_law.specs.Effect.{Effect, Nothing, FullPageImage, Init, Change, Gone, Step, At}

-- what replay holds of a block: its page, none where it is absent or all zeros, and whether a change of it was skipped
pub record Held : Type 0 where
  pub page : Option (List ℕ)
  pub skipped : Bool

-- what replay finds: no change is skipped yet
abbrev pub found : Option (List ℕ) → Held
found page = record { page = page; skipped = false }

-- the page made stands there; a refusal is the answer
abbrev pub with_page : Bool → Redone → Result Held RedoWhy
with_page skipped (Ok page) = Ok (record { page = Some page; skipped = skipped })
with_page skipped (Err why) = Err why

-- a change is applied to a page whose LSN is below the record's end; a newer page has it; of no page it is skipped, and that is kept in mind
abbrev pub after_change : PageView → ℕ → (List ℕ → Redone) → Bool → Option (List ℕ) → Result Held RedoWhy
after_change v end change skipped None = Ok (record { page = None; skipped = true })
after_change v end change skipped (Some page) =
    if nat_lt (v.lsn page) end then with_page skipped (change page) else Ok (record { page = Some page; skipped = skipped })

-- one record; a block that is gone needs no skipped change
abbrev pub replay_step : PageView → Held → ℕ → Effect → Result Held RedoWhy
replay_step v held end Nothing = Ok held
replay_step v held end (FullPageImage page) = Ok (record { page = page; skipped = held.skipped })
replay_step v held end (Init made) = with_page held.skipped made
replay_step v held end (Change change) = after_change v end change held.skipped held.page
replay_step v held end Gone = Ok (record { page = None; skipped = false })

-- a refusal ends replay
abbrev pub replay_on : PageView → Result Held RedoWhy → List Step → Result Held RedoWhy
replay_on v answer [] = answer
replay_on v (Ok held) (At end effect ∷ log) = replay_on v (replay_step v held end effect) log
replay_on v (Err why) (At end effect ∷ log) = Err why

-- the records of a log in turn
abbrev pub replay_block : PageView → Held → List Step → Result Held RedoWhy
replay_block v held log = replay_on v (Ok held) log
