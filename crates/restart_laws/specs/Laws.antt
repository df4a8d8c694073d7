-- A replay that was stopped, and begun again, ends as it would have. Own: "A replay that can be started again", "A replay that is begun again".
use Rattle.std.specs.Prelude.{◌≡◌, ◌⊎◌, List, Option, Ok}
use Rattle.cluster_tree.specs.Contents.{Contents}
use Rattle.cluster_tree.specs.PathValue.{PathValue}
use Rattle.replay_copies.specs.Ended.{StandsLaid}
use Rattle.replay_copies.specs.Laid.{IsLaid, SameElsewhere}
use Rattle.replay_core.specs.Replayed.{After}
use Rattle.replay_core.specs.Under.{SameBesideReplay, replayed_under}
use Rattle.replay_core.specs.declared.outcome.Replayed.{Replayed as Count}
use Rattle.replay_list.specs.Laws.{IsListOf}
use Rattle.replay_list.specs.declared.listed.Listed.{Listed}
use Rattle.replay_restart.specs.Stopped.{IsReplaying}
use Rattle.replay_restart.specs.Meant.{IsLeftBy, Tells, taken_of}
use Rattle.replay_restart.specs.declared.outcome.Restarted.{Restarted}
use Rattle.replay_restart.specs.declared.outcome.Restarted.TheVariants as told
use Rattle.replay_restore.specs.Restored.{IsRestored}
use Rattle.replay_start.specs.Checked.{Start, start_of}
use Rattle.replayed_bytes.specs.Bytes.{HaveSameFiles}
use Rattle.restart_start.specs.Beginning.{MayBegin, without_own}
use Rattle.restored_laws.specs.Back.{IsLeftOf, SameBeside}
use Rattle.rmgr_hooks.specs.Custom.{Extension, IsSound}
use Rattle.stored_replay.specs.Stored.{Begun, NotBegun}
use Rattle.restart_laws.specs.Stopped.{AreOneRun, EndAsOne, IsLeftBelow, IsServed, IsStoppedIn, IsStoppedOn, SameLaid, WasBegun}

-- what replay doesn't change is as it was, so all is but what is at or below the areas and the label
abbrev pub ReplayIsBeside : Type 0
ReplayIsBeside = (root : PathValue) (old new : Contents) → SameBesideReplay root old new → SameBeside root old new

-- so what a stop of `restart` leaves while it replays is what stops may leave
abbrev pub ReplayingIsStopped : Type 0
ReplayingIsStopped = (custom : Option Extension) (root : PathValue) (s : Start) (d x : Contents) → IsReplaying custom root s d x → IsStoppedIn custom root s d x

-- a stop leaves the mark and the copies as they were
abbrev pub StoppedKeepsMark : Type 0
StoppedKeepsMark = (custom : Option Extension) (root : PathValue) (s : Start) (d x : Contents) → IsStoppedIn custom root s d x → SameLaid root d x

-- and so the copies of what stood before, with all that replay doesn't change
abbrev pub StoppedIsLeft : Type 0
StoppedIsLeft = (custom : Option Extension) (root : PathValue) (s : Start) (listed : List Listed) (c d x : Contents)
    → IsListOf root listed → StandsLaid root listed c d → IsStoppedIn custom root s d x → IsLeftOf root listed d x

-- so its mark is taken up, with the list that it was begun from
abbrev pub StoppedIsTaken : Type 0
StoppedIsTaken = (custom : Option Extension) (root : PathValue) (s : Start) (listed : List Listed) (c d x : Contents)
    → WasBegun custom root s listed c d → IsStoppedIn custom root s d x → taken_of x root ≡ Ok (Begun listed)

-- What is brought back of what a stop left begins as what a replay was begun from: the checks answer the same of both.
abbrev pub StartsAreTheSame : Type 0
StartsAreTheSame = (custom : Option Extension) (root : PathValue) (s : Start) (listed : List Listed) (c d x b : Contents)
    → WasBegun custom root s listed c d → IsStoppedIn custom root s d x → IsRestored root listed x b
    → start_of custom (without_own b root) root ≡ start_of custom (without_own c root) root

-- So a replay may begin of it as of those, with the same start and the same list.
abbrev pub MayBeginAgain : Type 0
MayBeginAgain = (custom : Option Extension) (root : PathValue) (s : Start) (listed : List Listed) (c d x b : Contents)
    → WasBegun custom root s listed c d → IsStoppedIn custom root s d x → IsRestored root listed x b → MayBegin custom (without_own b root) root s listed

-- And the replay over it ends as the one that was stopped would have: with the same files below the root, and telling the same; or neither ends.
abbrev pub AgainEndsAsFirst : Type 0
AgainEndsAsFirst = (custom : Option Extension) → IsSound custom → (root : PathValue) (s : Start) (listed : List Listed) (c d x b : Contents)
    → WasBegun custom root s listed c d → IsServed root s.control.relseg c → IsStoppedIn custom root s d x → IsRestored root listed x b
    → EndAsOne root (replayed_under custom root s d) (replayed_under custom root s b)

-- What is brought back is again what stops may leave,
abbrev pub BackIsStopped : Type 0
BackIsStopped = (custom : Option Extension) (root : PathValue) (s : Start) (listed : List Listed) (c d x b : Contents)
    → WasBegun custom root s listed c d → IsStoppedIn custom root s d x → IsRestored root listed x b → IsStoppedIn custom root s d b

-- and so is what a further stop leaves of it, or of what an earlier one left: so all of this holds however often a replay is stopped.
abbrev pub StopsAreOne : Type 0
StopsAreOne = (custom : Option Extension) (root : PathValue) (s : Start) (d x y : Contents) → IsStoppedIn custom root s d x
    → IsStoppedIn custom root s x y ⊎ IsStoppedOn custom root s d x y → IsStoppedIn custom root s d y

-- So where a replay is done that takes up what a stop left, it leaves below the root what the first would have left, with mark and copies removed, and
-- tells what that would have told.
abbrev pub RestartedIsDone : Type 0
RestartedIsDone = (custom : Option Extension) → IsSound custom → (root : PathValue) (s : Start) (listed : List Listed) (c d x new : Contents) (count : Count)
    → WasBegun custom root s listed c d → IsServed root s.control.relseg c → IsStoppedIn custom root s d x
    → IsLeftBy custom x root new (told.Replayed count) → (left : IsLeftBelow custom root s d new) × Tells left.after count

-- And where a stop came behind the last record of that replay, when all but mark and copies was as it was to be left, so does the one that removes these.
abbrev pub EndedIsDone : Type 0
EndedIsDone = (custom : Option Extension) → IsSound custom → (root : PathValue) (s : Start) (listed : List Listed) (c d x b y new : Contents) (after : After)
    → WasBegun custom root s listed c d → IsServed root s.control.relseg c → IsStoppedIn custom root s d x → IsRestored root listed x b
    → replayed_under custom root s b ≡ Ok after → SameElsewhere root after.files y → IsLeftBy custom y root new told.HadEnded → IsLeftBelow custom root s d new

-- Either is what one run leaves that begins where that replay was begun, and isn't stopped,
abbrev pub LeftIsOneRun : Type 0
LeftIsOneRun = (custom : Option Extension) → IsSound custom → (root : PathValue) (s : Start) (listed : List Listed) (c d new one : Contents) (count : Count)
    → WasBegun custom root s listed c d → IsLaid root listed c d → IsServed root s.control.relseg c → (left : IsLeftBelow custom root s d new)
    → IsLeftBy custom c root one (told.Replayed count) → HaveSameFiles new root one root × Tells left.after count

-- and so the runs that were stopped and the one that was done are together as that one.
abbrev pub RestartedIsOneRun : Type 0
RestartedIsOneRun = (custom : Option Extension) → IsSound custom → (root : PathValue) (s : Start) (listed : List Listed) (c d x new one : Contents) (count single : Count)
    → WasBegun custom root s listed c d → IsLaid root listed c d → IsServed root s.control.relseg c → IsStoppedIn custom root s d x
    → IsLeftBy custom x root new (told.Replayed count) → IsLeftBy custom c root one (told.Replayed single) → AreOneRun root new one count single

-- Where a stop came while the mark and the copies were laid, and left all but these as it was and no mark of a list, one that is done then leaves what one
-- may leave that begins where that replay was begun.
abbrev pub BegunLateIsBegun : Type 0
BegunLateIsBegun = (custom : Option Extension) (root : PathValue) (c x new : Contents) (told : Restarted)
    → taken_of c root ≡ Ok NotBegun → SameElsewhere root c x → taken_of x root ≡ Ok NotBegun → IsLeftBy custom x root new told → IsLeftBy custom c root new told
