-- However often a replay that can be started again is stopped, the run that is done leaves what one leaves. Own: "A replay that can be started again".
use Rattle.std.specs.Prelude.{Option, List}
use Rattle.cluster_tree.specs.Contents.{Contents}
use Rattle.cluster_tree.specs.PathValue.{PathValue}
use Rattle.replay_list.specs.declared.listed.Listed.{Listed}
use Rattle.replay_restart.specs.Meant.{IsLeftBy, WhyEnded}
use Rattle.replay_restart.specs.Stopped.{IsStopped}
use Rattle.replay_restart.specs.declared.fault.RestartFault.{RestartFault}
use Rattle.replay_restart.specs.declared.outcome.Restarted.{Restarted}
use Rattle.replay_start.specs.Checked.{Start}
use Rattle.restart_laws.specs.Stopped.{IsServed, IsStoppedIn, WasBegun}
use Rattle.rmgr_hooks.specs.Custom.{Extension, IsSound}
use Rattle.stopped_restarts.specs.Course.{IsFirst, IsLeftByOne, IsLeftByStops}
use Rattle.stopped_restarts.specs.Refused.{WhyNotDone}

-- before the first run
abbrev pub FirstIsUnbegun : Type 0
FirstIsUnbegun = (custom : Option Extension) (root : PathValue) (c : Contents) → IsFirst custom root c → IsLeftByStops custom root c c

-- what a stop leaves of a run over that is that again
abbrev pub StopsGoOn : Type 0
StopsGoOn = (custom : Option Extension) → IsSound custom → (root : PathValue) (c x y : Contents)
    → IsFirst custom root c → IsLeftByStops custom root c x → IsStopped custom root x y → IsLeftByStops custom root c y

-- and a run over it that is done leaves and tells what one run does that isn't stopped
abbrev pub RunIsOne : Type 0
RunIsOne = (custom : Option Extension) → IsSound custom → (root : PathValue) (c x new : Contents) (told : Restarted)
    → IsFirst custom root c → IsLeftByStops custom root c x → IsLeftBy custom x root new told → IsLeftByOne custom root c new told

-- and one that goes on from what a stop left isn't done for no other reason than these
abbrev pub RefusedAsOne : Type 0
RefusedAsOne = (custom : Option Extension) → IsSound custom → (root : PathValue) (s : Start) (listed : List Listed) (c d x : Contents) (e : RestartFault)
    → WasBegun custom root s listed c d → IsServed root s.control.relseg c → IsStoppedIn custom root s d x → WhyEnded custom x root e → WhyNotDone custom root s d x e
