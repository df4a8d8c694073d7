-- What the law of one block asks of a log and a base: that a server with hints logged ran from one through the other. Own: "The law of one block".
use Rattle.std.specs.Prelude.{ℕ, ◌≡◌, ◌<◌, ◌≤◌, List, [], ◌∷◌, IsTrue, Option, Some, None, Ok, Err}
use Rattle.page_masks.specs.Law.{PageView, Redone, IsChange}
use Rattle.replay_law.specs.Effect.{Effect, Nothing, FullPageImage, Init, Change, Gone, Step, At}
use Rattle.replay_law.specs.Stage.{next_stage}

-- the ends of the records rise, and all lie above this position
abbrev pub EndsRise : ℕ → List Step → Type 0
EndsRise low [] = Unit {0}
EndsRise low (At end effect ∷ log) = (low < end) × EndsRise end log

-- no page, or a page of the block
abbrev pub IsState : PageView → Option (List ℕ) → Type 0
IsState v None = Unit {0}
IsState v (Some page) = IsTrue (v.is_page page)

-- no page, or one whose LSN isn't above this position
abbrev pub IsNoNewer : PageView → ℕ → Option (List ℕ) → Type 0
IsNoNewer v high None = Unit {0}
IsNoNewer v high (Some page) = v.lsn page ≤ high

-- a page of the block with the record's end as LSN
pub record IsMade (v : PageView) (end : ℕ) (made : List ℕ) : Type 0 where
  pub page : IsTrue (v.is_page made)
  pub lsn : v.lsn made ≡ end

-- what a manager owes for its effects: pages with the record's end as LSN, and changes that respect the mask
abbrev pub IsEffect : PageView → ℕ → Effect → Type 0
IsEffect v end Nothing = Unit {0}
IsEffect v end (FullPageImage None) = Unit {0}
IsEffect v end (FullPageImage (Some page)) = IsMade v end page
IsEffect v end (Init (Ok page)) = IsMade v end page
IsEffect v end (Init (Err why)) = Unit {0}
IsEffect v end (Change change) = IsChange v end change
IsEffect v end Gone = Unit {0}

-- so is the effect of each record
abbrev pub AreEffects : PageView → List Step → Type 0
AreEffects v [] = Unit {0}
AreEffects v (At end effect ∷ log) = IsEffect v end effect × AreEffects v log

-- a change finds a sound page and is carried out
abbrev pub IsCarriedOut : PageView → (List ℕ → Redone) → Option (List ℕ) → Type 0
IsCarriedOut v change None = ⊥
IsCarriedOut v change (Some page) = IsTrue (v.sound page) × ((q : List ℕ) × (change page ≡ Ok q))

-- an effect suits a stage: a change is carried out, no page is refused, and no image of zeros falls on a page
abbrev pub Suits : PageView → Option (List ℕ) → Effect → Type 0
Suits v state Nothing = Unit {0}
Suits v state (FullPageImage None) = state ≡ None
Suits v state (FullPageImage (Some page)) = Unit {0}
Suits v state (Init (Ok page)) = Unit {0}
Suits v state (Init (Err why)) = ⊥
Suits v state (Change change) = IsCarriedOut v change state
Suits v state Gone = Unit {0}

-- the effect of each record suits the stage that the records before it leave
abbrev pub RunsOn : PageView → Option (List ℕ) → List Step → Type 0
RunsOn v base [] = Unit {0}
RunsOn v base (At end effect ∷ log) = Suits v base effect × RunsOn v (next_stage base effect) log

-- no record changes the block, and no page that is made is refused
abbrev pub HasNoChange : List Step → Type 0
HasNoChange [] = Unit {0}
HasNoChange (At end Nothing ∷ log) = HasNoChange log
HasNoChange (At end (FullPageImage page) ∷ log) = HasNoChange log
HasNoChange (At end (Init (Ok page)) ∷ log) = HasNoChange log
HasNoChange (At end (Init (Err why)) ∷ log) = ⊥
HasNoChange (At end (Change change) ∷ log) = ⊥
HasNoChange (At end Gone ∷ log) = HasNoChange log

-- the log of a block since redo, and the block's state in the base
pub record IsHistory (v : PageView) (redo : ℕ) (base : Option (List ℕ)) (log : List Step) : Type 0 where
  pub rises : EndsRise redo log
  pub effects : AreEffects v log
  pub page : IsState v base
  pub old : IsNoNewer v redo base
  pub runs : RunsOn v base log
