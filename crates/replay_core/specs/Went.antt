-- How far a replay went, and what it answers. Own: "Changes under a mark", "A replay, in order".
use Rattle.std.specs.Prelude.{◌≡◌, ◌⊎◌, Bool, true, false, List, Result, Ok, Err, MatchResult}
use Rattle.cluster_tree.specs.Contents.{Contents, entry_at}
use Rattle.cluster_tree.specs.PathValue.{PathValue}
use Rattle.cluster_tree.specs.Change.{Change}
use Rattle.cluster_tree.specs.Run.{State}
use Rattle.control_file.specs.declared.control.Control.{Control}
use Rattle.file_edits.specs.Own.{GoesOn}
use Rattle.file_effects.specs.Own.{is_replayed}
use Rattle.marked_runs.specs.Runs.{Runs}
use Rattle.replay_start.specs.declared.fault.ReplayFault.{ReplayFault}
use Rattle.replay_core.specs.Faults.{IsFree}
use Rattle.replay_core.specs.Replayed.{After, beginning, closing}
use Rattle.replay_core.specs.declared.outcome.Replayed.{Replayed}

-- these changes ran between two states
abbrev pub Ran : List Change → State → State → Bool → Type 0
Ran changes old new done = Runs changes old.calls new.calls old.contents new.contents done

-- changing calls were made between them at paths that records change alone, and all else is as it was
pub record RanRecords (root : PathValue) (old new : State) : Type 0 where
  pub own : GoesOn (is_replayed root) old.calls new.calls
  pub elsewhere : (path : PathValue) → is_replayed root path ≡ false → entry_at new.contents path ≡ entry_at old.contents path

-- Under the mark calls were made for records, if any, and for nothing else; or the changes at the end were begun behind them, and all of these are done
-- where the replay is.
pub data WentOn (root : PathValue) (marked : State) : State → (done : Bool) → Type 0 where
  Replaying : {new : State} → RanRecords root marked new → WentOn root marked new false
  Closing : {new : State} {done : Bool} (late : State) (control : Control) → RanRecords root marked late → Ran (closing root control) late new done
      → WentOn root marked new done

-- Nothing was changed; or the making of the mark broke off; or it stands, and the replay went on under it.
pub data Went (root : PathValue) (old : State) : State → (done : Bool) → Type 0 where
  Unchanged : {new : State} → new.calls ≡ old.calls → new.contents ≡ old.contents → Went root old new false
  Begins : {new : State} → Ran (beginning root) old new false → Went root old new false
  Marked : {new : State} {done : Bool} (marked : State) → Ran (beginning root) old marked true → WentOn root marked new done → Went root old new done

-- what was replayed is what is meant
pub record IsAfter (meant : Result After ReplayFault) (told : Replayed) (files : Contents) : Type 0 where
  pub after : After
  pub is : meant ≡ Ok after
  pub files_are : files ≡ after.files
  pub records : told.records ≡ after.records
  pub end : told.end.0 ≡ after.end
  pub tli : told.tli ≡ after.tli

-- the answer is the one that is meant, or free
abbrev pub IsCause : Result After ReplayFault → ReplayFault → Type 0
IsCause meant e = IsFree e ⊎ (meant ≡ Err e)

-- both
abbrev pub Answers : Result After ReplayFault → Contents → Result Replayed ReplayFault → Type 0
Answers meant files result = MatchResult result (λ told. IsAfter meant told files) (IsCause meant)
