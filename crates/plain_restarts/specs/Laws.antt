-- A replay that can be started again leaves what one without --restart leaves. Own: "A replay that can be started again".
use Rattle.std.specs.Prelude.{◌≡◌, ◌⊎◌, List, Option, Ok}
use Rattle.cluster_tree.specs.Contents.{Contents}
use Rattle.cluster_tree.specs.PathValue.{PathValue}
use Rattle.cluster_tree.specs.Run.{Course, Moment}
use Rattle.cluster_tree.specs.Stops.{LeavesOnly}
use Rattle.cluster_tree.specs.declared.file_fault.FileFault.{FileFault}
use Rattle.file_edits.specs.Answers.{IsFree}
use Rattle.marked_runs.specs.Moments.{StandsSynced}
use Rattle.replay_list.specs.declared.listed.Listed.{Listed}
use Rattle.replay_restart.specs.Meant.{IsCleared, IsLeftBy, taken_of}
use Rattle.replay_restart.specs.declared.fault.RestartFault.{RestartFault}
use Rattle.replay_restart.specs.declared.outcome.Restarted.{Restarted}
use Rattle.replay_restore.specs.Freed.{IsRefusal}
use Rattle.replay_start.specs.Checked.{Start}
use Rattle.rmgr_hooks.specs.Custom.{Extension}
use Rattle.stopped_restarts.specs.Stopped.{IsServed, WasBegun}
use Rattle.stopped_restarts.specs.Course.{IsLeftByOne}
use Rattle.stopped_restarts.specs.Refused.{WhyNotDone}
use Rattle.stored_replay.specs.Stored.{NotBegun}
use Rattle.plain_restarts.specs.Kinds.{HasKinds, HasOddFolder}
use Rattle.plain_restarts.specs.Plain.{IsLeftPlainly, WhyNotPlainly, cleared}

-- the mark and the copies are gone, and all else is as it was
abbrev pub ClearedIsCleared : Type 0
ClearedIsCleared = (root : PathValue) (c : Contents) → IsCleared root c (cleared root c)

-- of contents in which no replay was begun a run leaves and tells what pg_walreplay does of these without mark and copies
abbrev pub RunIsPlain : Type 0
RunIsPlain = (custom : Option Extension) (root : PathValue) (c new : Contents) (told : Restarted)
    → taken_of c root ≡ Ok NotBegun → IsLeftBy custom c root new told → IsLeftPlainly custom root c new told

-- and so runs do that are stopped, however often, and done at last
abbrev pub OneIsPlain : Type 0
OneIsPlain = (custom : Option Extension) (root : PathValue) (c new : Contents) (told : Restarted) → IsLeftByOne custom root c new told → IsLeftPlainly custom root c new told

-- one that goes on isn't done for no other reason than these
abbrev pub RefusedPlainly : Type 0
RefusedPlainly = (custom : Option Extension) (root : PathValue) (s : Start) (listed : List Listed) (c d x : Contents) (e : RestartFault)
    → WasBegun custom root s listed c d → IsServed root s.control.relseg c → WhyNotDone custom root s d x e → WhyNotPlainly custom root c x e

-- ---- what can be in its way

-- a cluster of which a replay was begun has neither a link nor a name that isn't text at what would be brought back, also with mark and copies
abbrev pub BegunHasKinds : Type 0
BegunHasKinds = (custom : Option Extension) (root : PathValue) (s : Start) (listed : List Listed) (c d : Contents) → WasBegun custom root s listed c d → HasKinds root c × HasKinds root d

-- no changing call makes one, nor does a stop leave one, whatever calls come after one another
abbrev pub KindsStay : Type 0
KindsStay = (root : PathValue) (old new : Moment) → Course old new → HasKinds root old.state.contents → StandsSynced old.state.contents old
    → LeavesOnly (HasKinds root) old.stops new.stops

-- so nothing else is in the way than a folder where the label stood, or one of 64 parts
abbrev pub LittleIsInTheWay : Type 0
LittleIsInTheWay = (root : PathValue) (c : Contents) (e : FileFault) → HasKinds root c → IsRefusal root c e → IsFree e ⊎ HasOddFolder root c
