-- What pg_walreplay --restart does: PostgreSQL 16, src/backend/access/transam/xlogrecovery.c, PerformWalRecovery. Own: "A replay that can be started again", "Commands of this project's own".
use Rattle.std.specs.Prelude.{Option, None, ◌≡◌, ◌≢◌, ◌⊎◌, ◌++◌, ℕ, Bool, IsTrue, List, [], codes}
use Rattle.cluster_tree.specs.Contents.{Contents}
use Rattle.cluster_tree.specs.Run.{Moment}
use Rattle.commands.specs.declared.walreplay.WalreplayWords.{WalreplayWords}
use Rattle.marked_runs.specs.Moments.{IsMarked}
use Rattle.replay_copies.specs.Laid.{mark_of}
use Rattle.replay_core.specs.Within.{LogStays}
use Rattle.replay_restart.specs.Faults.{IsFree as IsFreeFault}
use Rattle.replay_restart.specs.Left.{IsLeftByRestart}
use Rattle.replay_restart.specs.Meant.{IsLeftBy, WhyEnded, WhyFirst}
use Rattle.replay_restart.specs.declared.fault.RestartFault.{RestartFault}
use Rattle.replay_restart.specs.declared.fault.RestartFault.TheVariants as fault
use Rattle.replay_restart.specs.declared.outcome.Restarted.{Restarted}
use Rattle.replay_restart.specs.declared.outcome.Restarted.TheVariants as told
use Rattle.rmgr_hooks.specs.Custom.{Extension}
use Rattle.cluster_causes.specs.Walks.{walk_cause}
use Rattle.replay_restart.specs.Stopped.{IsStopped}
use Rattle.marked_runs.specs.Moments.{StandsSynced}
use Rattle.cluster_tree.specs.Frame.{moment_of}
use Rattle.cluster_tree.specs.Stops.{LeavesOnly}
use Rattle.cluster_tree.specs.declared.tree.Tree.{Ghosts}
use Rattle.run_acts.specs.Answers.{Answer, does, refused}
use Rattle.run_acts.specs.Causes.{IsFree, IsOfLook}
use Rattle.run_acts.specs.declared.cause.Cause.{Cause}
use Rattle.run_acts.specs.declared.cause.Cause.TheVariants as cause
use Rattle.run_acts.specs.declared.cause.ReplayCause.TheVariants as replay
use Rattle.run_acts.specs.declared.cause.RewindCause.TheVariants as unfit
use Rattle.cmd_walreplay.specs.Walreplay.{broken, done_acts, replay_cause, replayed_line}

-- the cause of a fault
abbrev pub restart_cause : RestartFault → Cause
restart_cause (fault.Replay e) = replay_cause e
restart_cause (fault.Walk e) = walk_cause e
restart_cause (fault.BadPlan root number) = cause.Rewind (unfit.BadPlan root number)
restart_cause (fault.ShadowDiffers path) = cause.Replay (replay.ShadowDiffers path)
restart_cause (fault.NotRestartable name) = cause.Replay (replay.NotRestartable name)

-- what is told where a replay had ended before, and only its mark and copies were left to remove
unfoldable pub ended_line : List ℕ
ended_line = codes "pg_walreplay: replay had ended\n"

-- what is told of what was done
abbrev pub told_line : Restarted → List ℕ
told_line (told.Replayed count) = replayed_line count.records count.end.0 count.tli
told_line told.HadEnded = ended_line

-- ---- its answers

-- Over every tree: changes below the root, and a line on what was done; or a refusal while it looks; or changes below the root, and then a refusal or a
-- fault of a device.
abbrev pub IsRestart : WalreplayWords → Answer → Type 0
IsRestart words answer =
    ((files : Contents) × (told : Restarted) × (answer ≡ does (done_acts words files (told_line told))))
    ⊎ ((e : Cause) × IsOfLook e × (answer ≡ refused e))
    ⊎ ((f : RestartFault) × (answer ≡ broken words (restart_cause f)))

-- Of these contents: what is left and told is what is meant; or it is refused for what refuses before the first change; or for the first point that
-- refuses behind that, unless a device failed or memory was wanting.
abbrev pub IsRestartOf : Option Extension → Contents → WalreplayWords → Answer → Type 0
IsRestartOf custom c words answer =
    ((files : Contents) × (told : Restarted) × IsLeftBy custom c words.root files told × (answer ≡ does (done_acts words files (told_line told))))
    ⊎ ((f : RestartFault) × WhyFirst custom c words.root f × (answer ≡ refused (restart_cause f)))
    ⊎ ((f : RestartFault) × (IsFreeFault f ⊎ WhyEnded custom c words.root f) × (answer ≡ broken words (restart_cause f)))

-- an answer over every tree, and of its contents where these are told
abbrev pub IsRestartIn : (tells : Type 0) → Option Extension → Contents → WalreplayWords → Answer → Type 0
IsRestartIn tells custom c words answer = IsRestart words answer × (tells → IsRestartOf custom c words answer)

-- Bytes of main forks' files that the log makes anew may stand as they were or as they became, so no one answer is known of the contents: this stands in
-- its place, and is no answer of the command's form.
abbrev pub unknown_answer : Answer
unknown_answer = record { acts = []; refusal = None }

-- ---- what it leaves

-- what is done leaves what is meant, and its line stands behind what was told before
pub record LeavesRestarted (custom : Option Extension) (words : WalreplayWords) (tells : Bool) (c c' : Contents) (out out' : List ℕ) : Type 0 where
  pub what : Restarted
  pub left : IsLeftBy custom c words.root c' what
  pub line : IsTrue tells → out' ≡ out ++ told_line what

-- it is refused before its first change
abbrev pub IsRefusedFirst : Option Extension → WalreplayWords → Contents → Cause → Type 0
IsRefusedFirst custom words c ended = (f : RestartFault) × WhyFirst custom c words.root f × (ended ≡ restart_cause f)

-- it is refused, for the first point that refuses
abbrev pub IsRefused : Option Extension → WalreplayWords → Contents → Cause → Type 0
IsRefused custom words c ended = (f : RestartFault) × WhyEnded custom c words.root f × (ended ≡ restart_cause f)

-- Whatever the cause: the log is as it was; it is a fault of a device or want of memory, or that of the first point that refuses; nothing is changed, and no
-- change is tried, before every check has passed; and what is refused behind that leaves the mark.
pub record StaysRestarted (custom : Option Extension) (words : WalreplayWords) (c c' : Contents) (ended : Cause) : Type 0 where
  pub log : LogStays words.root c c'
  pub exact : IsFree ended ⊎ (ended ≡ cause.Done) ⊎ IsRefused custom words c ended
  pub checked : (f : RestartFault) → WhyFirst custom c words.root f → (c' ≡ c) × (ended ≢ cause.WriteFault)
  pub mark : IsFree ended ⊎ (ended ≡ cause.Done) ⊎ IsRefusedFirst custom words c ended ⊎ IsMarked (mark_of words.root) c'

-- a stop at any moment leaves what one could have left at the start; the mark; or what is meant
abbrev pub IsLeftByStart : Option Extension → WalreplayWords → Moment → Contents → Type 0
IsLeftByStart custom words first c = IsLeftByRestart custom words.root first c

-- where what stands is synced at the start, a stop at any moment leaves what the same words go on from
abbrev pub LeavesToGoOn : {F : Type 0} → Ghosts F → Option Extension → WalreplayWords → F → F → Type 0
LeavesToGoOn tree custom words old new =
    StandsSynced (tree.contents old) (moment_of tree old) → LeavesOnly (IsStopped custom words.root (tree.contents old)) (tree.stops old) (tree.stops new)
