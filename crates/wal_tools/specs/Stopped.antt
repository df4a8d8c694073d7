-- What a stop at any moment of a run may leave. Own: "What a stop may leave", "Changes under a mark".
use Rattle.std.specs.Prelude.{Option, ◌≡◌, ℤ, None, Result, Ok, Err}
use Rattle.rmgr_hooks.specs.Custom.{Extension}
use Rattle.cluster_tree.specs.Contents.{Contents}
use Rattle.cluster_tree.specs.Run.{Moment}
use Rattle.commands.specs.declared.command.Command.{Command}
use Rattle.commands.specs.declared.command.Command.TheVariants as command
use Rattle.commands.specs.declared.fault.CommandFault.{CommandFault}
use Rattle.cmd_archivecleanup.specs.Left.{IsLeftByCleanup}
use Rattle.cmd_pair.specs.Left.{IsLeftByPair}
use Rattle.cmd_resetwal.specs.Resetwal.{IsLeftByReset}
use Rattle.cmd_restart.specs.Restart.{IsLeftByStart}
use Rattle.cmd_resume.specs.Resume.{IsLeftByResume, IsResumedDurably}
use Rattle.cmd_rewind.specs.Rewind.{IsDurable, IsLeftByRewind}
use Rattle.cmd_walreplay.specs.Walreplay.{IsLeftByWalreplay}
use Rattle.marked_runs.specs.Moments.{IsUntouched, StandsSynced}

-- A command that changes a cluster leaves it untouched, marked as unfinished or whole; a clean-up leaves all but some of the files that go, and pair all but
-- its three clusters; one that only reads leaves all untouched.
abbrev pub IsLeftAsked : Option Extension → Result Command CommandFault → ℤ → Moment → Contents → Type 0
IsLeftAsked custom (Ok (command.Rewind words)) now first c = IsLeftByRewind words now first.state.contents first c
IsLeftAsked custom (Ok (command.Resume words)) now first c = IsLeftByResume words now first c
IsLeftAsked custom (Ok (command.Controldata words)) now first c = IsUntouched first c
IsLeftAsked custom (Ok (command.Waldump words)) now first c = IsUntouched first c
IsLeftAsked custom (Ok (command.Resetwal words)) now first c = IsLeftByReset words now first c
IsLeftAsked custom (Ok (command.Archivecleanup words)) now first c = IsLeftByCleanup words first c
IsLeftAsked custom (Ok (command.Walreplay words)) now first c = IsLeftByWalreplay custom words first c
IsLeftAsked custom (Ok (command.Restart words)) now first c = IsLeftByStart custom words first c
IsLeftAsked custom (Ok (command.Walcompare words)) now first c = IsUntouched first c
IsLeftAsked custom (Ok (command.Pair words)) now first c = IsLeftByPair words first c
IsLeftAsked custom (Err e) now first c = IsUntouched first c

-- Once it is done, a stop leaves what stands, and nothing else: of a rewind that was asked for and needed, of a resume, of a reset that was asked
-- for, and of a replay, also of one that can be started again.
abbrev pub IsDurableAsked : Result Command CommandFault → ℤ → Contents → Moment → Type 0
IsDurableAsked (Ok (command.Rewind words)) now c moment = IsDurable words now c moment
IsDurableAsked (Ok (command.Resume words)) now c moment = IsResumedDurably words now c moment
IsDurableAsked (Ok (command.Controldata words)) now c moment = Unit {0}
IsDurableAsked (Ok (command.Waldump words)) now c moment = Unit {0}
IsDurableAsked (Ok (command.Resetwal words)) now c moment = words.options.dry ≡ None → StandsSynced moment.state.contents moment
IsDurableAsked (Ok (command.Archivecleanup words)) now c moment = Unit {0}
IsDurableAsked (Ok (command.Walreplay words)) now c moment = StandsSynced moment.state.contents moment
IsDurableAsked (Ok (command.Restart words)) now c moment = StandsSynced moment.state.contents moment
IsDurableAsked (Ok (command.Walcompare words)) now c moment = Unit {0}
IsDurableAsked (Ok (command.Pair words)) now c moment = Unit {0}
IsDurableAsked (Err e) now c moment = Unit {0}
