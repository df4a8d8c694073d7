-- What pg_walreplay leaves without --restart, beside what it leaves with it. Own: "A replay that can be started again".
use Rattle.std.specs.Prelude.{◌≡◌, ℕ, not, List, Option, Ok, Err}
use Rattle.std.specs.FinMap.{retain_keys}
use Rattle.cluster_tree.specs.Contents.{Contents, entry_at}
use Rattle.cluster_tree.specs.PathValue.{PathValue, below}
use Rattle.cluster_tree.specs.declared.file_fault.FileFault.{FileFault}
use Rattle.replay_copies.specs.Laid.{is_laid_at}
use Rattle.replay_core.specs.Replayed.{After, after_replay}
use Rattle.replay_restart.specs.Faults.{of_files}
use Rattle.replay_restart.specs.declared.fault.RestartFault.{RestartFault}
use Rattle.replay_restart.specs.declared.fault.RestartFault.TheVariants as fault
use Rattle.replay_restart.specs.declared.outcome.Restarted.{Restarted}
use Rattle.replay_restore.specs.Freed.{IsRefusal}
use Rattle.replay_start.specs.declared.fault.ReplayFault.{ReplayFault}
use Rattle.rmgr_hooks.specs.Custom.{Extension}
use Rattle.stopped_restarts.specs.Course.{IsToldOf}

-- these contents without a replay's mark and copies at a root
unfoldable pub cleared : PathValue → Contents → Contents
cleared root c = retain_keys c (λ path. not (is_laid_at root path))

-- Of a cluster without its mark and copies pg_walreplay leaves at each path below the root what stands there, and of such a replay this is told.
pub record IsLeftPlainly (custom : Option Extension) (root : PathValue) (c new : Contents) (told : Restarted) : Type 0 where
  pub after : After
  pub is : after_replay custom (cleared root c) root ≡ Ok after
  pub files : (parts : List (List ℕ)) → entry_at new (below root parts) ≡ entry_at after.files (below root parts)
  pub tells : IsToldOf after told

-- Why a run isn't done that goes on from what a stop left, x, of a replay of the cluster c: something stands in the way of what is brought back, or a device
-- failed, or memory was wanting; or pg_walreplay breaks off too, of c without its mark and copies.
pub data WhyNotPlainly (custom : Option Extension) (root : PathValue) (c x : Contents) : RestartFault → Type 0 where
  InTheWay : (e : FileFault) → IsRefusal root x e → WhyNotPlainly custom root c x (of_files e)
  BreaksOff : (e first : ReplayFault) → after_replay custom (cleared root c) root ≡ Err first → WhyNotPlainly custom root c x (fault.Replay e)
