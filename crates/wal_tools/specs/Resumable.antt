-- What a stop of a rewind, or of its resume, leaves for the next resume, and the calls of a resume: PostgreSQL 16 manual, reference page of pg_rewind. Own: "A rewind that is resumed".
use Rattle.std.specs.Prelude.{Option, ◌≡◌, ℤ, None, Result, Ok}
use Rattle.cluster_tree.specs.Contents.{Contents}
use Rattle.cluster_tree.specs.Frame.{moment_of}
use Rattle.cluster_tree.specs.Stops.{LeavesOnly}
use Rattle.cluster_tree.specs.declared.tree.Tree.{Ghosts}
use Rattle.commands.specs.declared.command.Command.{Command}
use Rattle.commands.specs.declared.command.Command.TheVariants as command
use Rattle.commands.specs.declared.fault.CommandFault.{CommandFault}
use Rattle.commands.specs.declared.rewind.RewindWords.{RewindWords}
use Rattle.commands.specs.declared.walreplay.WalreplayWords.{WalreplayWords}
use Rattle.marked_runs.specs.Moments.{StandsSynced}
use Rattle.rewind_core.specs.Over.{without_own}
use Rattle.rewind_core.specs.Planned.{Needing}
use Rattle.rewind_core.specs.declared.outcome.Plan.{Plan}
use Rattle.resume_core.specs.Stored.{stored_of}
use Rattle.stored_laws.specs.Laws.{IsStopped, IsStoppedAgain}
use Rattle.cmd_restart.specs.Restart.{LeavesToGoOn}
use Rattle.cmd_rewind.specs.Rewind.{IsLeftToResume}
use Rattle.rmgr_hooks.specs.Custom.{Extension}
use Rattle.cmd_resume.specs.Calls.{MakesAgain}
use Rattle.run_acts.specs.declared.cause.Cause.{Cause}

-- a rewind that begins on synced contents leaves these at any stop, or what a plan of just what is needed left, which a resume completes where its mark reads
-- as complete
abbrev pub LeavesToResume : {F : Type 0} → Ghosts F → Result Command CommandFault → ℤ → F → F → Type 0
LeavesToResume tree asked now old new = (words : RewindWords) → asked ≡ Ok (command.Rewind words) → StandsSynced (tree.contents old) (moment_of tree old) →
    LeavesOnly (IsLeftToResume words now (tree.contents old) (tree.contents old)) (tree.stops old) (tree.stops new)

-- so does a resume where no complete mark stands, by what is seen without one
abbrev pub LeavesFresh : {F : Type 0} → Ghosts F → Result Command CommandFault → ℤ → F → F → Type 0
LeavesFresh tree asked now old new = (words : RewindWords) → asked ≡ Ok (command.Resume words) → stored_of (tree.contents old) words.target words.source ≡ Ok None →
    StandsSynced (tree.contents old) (moment_of tree old) → LeavesOnly (IsLeftToResume words now (without_own (tree.contents old) words.target) (tree.contents old)) (tree.stops old) (tree.stops new)

-- and a resume of a rewind that was stopped, from synced contents on, leaves that rewind, stopped again, or the rewound tree
abbrev pub LeavesStopped : {F : Type 0} → Ghosts F → Result Command CommandFault → F → F → Type 0
LeavesStopped tree asked old new = (words : RewindWords) → asked ≡ Ok (command.Resume words) → (c : Contents) (before : ℤ) (n : Needing) (plan : Plan) →
    IsStopped c words.target words.source before n plan (tree.contents old) → StandsSynced (tree.contents old) (moment_of tree old) →
    LeavesOnly (IsStoppedAgain c words.target words.source before n plan) (tree.stops old) (tree.stops new)

-- the calls of a resume over the plan in its mark are the first of the changes that the plan says; where what stands differs, just those before the
-- first change that it refuses
abbrev pub MakesResumed : {F : Type 0} → Ghosts F → Result Command CommandFault → F → F → (ended : Cause) → Type 0
MakesResumed tree asked old new ended =
    (words : RewindWords) → asked ≡ Ok (command.Resume words) → MakesAgain words (tree.contents old) (tree.calls old) (tree.calls new) ended

-- a replay with --restart, where what stands is synced at the start, leaves at any stop what the same words go on from
abbrev pub LeavesToRestart : {F : Type 0} → Ghosts F → Option Extension → Result Command CommandFault → F → F → Type 0
LeavesToRestart tree custom asked old new = (words : WalreplayWords) → asked ≡ Ok (command.Restart words) → LeavesToGoOn tree custom words old new
