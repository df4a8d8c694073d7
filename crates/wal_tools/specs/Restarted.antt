-- What runs of a replay that can be started again leave together, however often it was stopped. Own: "A replay that can be started again".
use Rattle.std.specs.Prelude.{Option, ◌≡◌, ◌⊎◌, List, Result, Ok}
use Rattle.cluster_tree.specs.Contents.{Contents}
use Rattle.cluster_tree.specs.Frame.{moment_of}
use Rattle.cluster_tree.specs.Stops.{LeavesOnly}
use Rattle.cluster_tree.specs.declared.tree.Tree.{Ghosts}
use Rattle.cmd_restart.specs.Restart.{restart_cause}
use Rattle.commands.specs.declared.command.Command.{Command}
use Rattle.commands.specs.declared.command.Command.TheVariants as command
use Rattle.commands.specs.declared.fault.CommandFault.{CommandFault}
use Rattle.commands.specs.declared.walreplay.WalreplayWords.{WalreplayWords}
use Rattle.marked_runs.specs.Moments.{StandsSynced}
use Rattle.plain_restarts.specs.Plain.{IsLeftPlainly, WhyNotPlainly}
use Rattle.plain_restarts.specs.Stopped.{IsServed, IsStoppedIn, WasBegun}
use Rattle.plain_restarts.specs.Course.{IsFirst, IsLeftByStops}
use Rattle.replay_core.specs.declared.outcome.Replayed.{Replayed}
use Rattle.replay_list.specs.declared.listed.Listed.{Listed}
use Rattle.replay_restart.specs.Meant.{taken_of}
use Rattle.replay_restart.specs.declared.fault.RestartFault.{RestartFault}
use Rattle.replay_restart.specs.declared.outcome.Restarted.{Restarted}
use Rattle.replay_restart.specs.declared.outcome.Restarted.TheVariants as told
use Rattle.replay_start.specs.Checked.{Start}
use Rattle.rmgr_hooks.specs.Custom.{Extension}
use Rattle.run_acts.specs.Causes.{IsFree}
use Rattle.run_acts.specs.declared.cause.Cause.{Cause}
use Rattle.run_acts.specs.declared.cause.Cause.TheVariants as cause
use Rattle.stored_replay.specs.Stored.{NotBegun}

-- Below the root it leaves what pg_walreplay without --restart does, and has that to tell: of what it found, without mark and copies, where no replay was begun
-- in that; and where it found what stops left of runs that were begun over some contents, one after another, of these without mark and copies.
pub record ConvergesRestarted (custom : Option Extension) (words : WalreplayWords) (c c' : Contents) : Type 0 where
  pub fresh : taken_of c words.root ≡ Ok NotBegun → (count : Replayed) × IsLeftPlainly custom words.root c c' (told.Replayed count)
  pub stopped : (first : Contents) → IsFirst custom words.root first → IsLeftByStops custom words.root first c → (told : Restarted) × IsLeftPlainly custom words.root first c' told

-- and where that is synced at its start, a stop of it leaves what such stops leave
abbrev pub LeavesStops : {F : Type 0} → Ghosts F → Option Extension → Result Command CommandFault → F → F → Type 0
LeavesStops tree custom asked old new = (words : WalreplayWords) → asked ≡ Ok (command.Restart words)
    → (first : Contents) → IsFirst custom words.root first → IsLeftByStops custom words.root first (tree.contents old)
    → StandsSynced (tree.contents old) (moment_of tree old) → LeavesOnly (IsLeftByStops custom words.root first) (tree.stops old) (tree.stops new)

-- It goes on from what a stop left but where something is in its way, or where pg_walreplay without --restart breaks off too: else it is done, a device failed,
-- or memory was wanting.
abbrev pub GoesOn : Option Extension → Result Command CommandFault → (c : Contents) → (ended : Cause) → Type 0
GoesOn custom asked c ended = (words : WalreplayWords) → asked ≡ Ok (command.Restart words)
    → (s : Start) (listed : List Listed) (first d : Contents) → WasBegun custom words.root s listed first d → IsServed words.root s.control.relseg first → IsStoppedIn custom words.root s d c
    → IsFree ended ⊎ ((ended ≡ cause.Done) ⊎ ((f : RestartFault) × WhyNotPlainly custom words.root first c f × (ended ≡ restart_cause f)))
