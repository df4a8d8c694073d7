-- Why a run that goes on from what a stop left isn't done. Own: "A replay that can be started again".
use Rattle.std.specs.Prelude.{◌≡◌, Option, Ok, Err}
use Rattle.cluster_tree.specs.Contents.{Contents}
use Rattle.cluster_tree.specs.PathValue.{PathValue}
use Rattle.cluster_tree.specs.declared.file_fault.FileFault.{FileFault}
use Rattle.file_edits.specs.Clearing.{tree_removed}
use Rattle.replay_core.specs.Replayed.{After}
use Rattle.replay_core.specs.Under.{replayed_under}
use Rattle.replay_restart.specs.Faults.{of_files}
use Rattle.replay_restart.specs.declared.fault.RestartFault.{RestartFault}
use Rattle.replay_restart.specs.declared.fault.RestartFault.TheVariants as fault
use Rattle.replay_restore.specs.Freed.{IsRefusal}
use Rattle.replay_start.specs.Checked.{Start}
use Rattle.replay_start.specs.declared.fault.ReplayFault.{ReplayFault}
use Rattle.restart_laws.specs.Stopped.{IsStoppedIn}
use Rattle.rmgr_hooks.specs.Custom.{Extension}
use Rattle.stored_replay.specs.Shadows.{shadow_folder}

-- Something stands in the way of what is brought back, or a device failed, or memory was wanting; the replay that was stopped would have broken off too;
-- or all was replayed over what was brought back, which stops may leave too, and the folder of copies can't be removed. So no check of the mark, the
-- cluster or the log refuses, and no block is changed first.
pub data WhyNotDone (custom : Option Extension) (root : PathValue) (s : Start) (d x : Contents) : RestartFault → Type 0 where
  InTheWay : (e : FileFault) → IsRefusal root x e → WhyNotDone custom root s d x (of_files e)
  BreaksOff : (e first : ReplayFault) → replayed_under custom root s d ≡ Err first → WhyNotDone custom root s d x (fault.Replay e)
  CopiesStay : (b : Contents) (after : After) (e : FileFault) → IsStoppedIn custom root s d b → replayed_under custom root s b ≡ Ok after
      → tree_removed (shadow_folder root) after.files ≡ Err e → WhyNotDone custom root s d x (of_files e)
