-- What a run of pg_rewind, of pg_walreplay and of pair leaves, and what one of pg_walcompare found: PostgreSQL 16 manual, reference page of pg_rewind;
-- src/backend/access/transam/xlogrecovery.c, PerformWalRecovery. Own: "The plan of a rewind", "A rewind that is resumed", "The answer of a
-- replay", "A replay that can be started again", "What a comparison of clusters shows", "A pair from a number".
use Rattle.std.specs.Prelude.{Option, ℕ, ℤ, Bool, List, Result, Ok, Err}
use Rattle.rmgr_hooks.specs.Custom.{Extension}
use Rattle.cluster_tree.specs.Contents.{Contents}
use Rattle.commands.specs.declared.command.Command.{Command}
use Rattle.commands.specs.declared.command.Command.TheVariants as command
use Rattle.commands.specs.declared.fault.CommandFault.{CommandFault}
use Rattle.cmd_pair.specs.Tried.{LeavesPair}
use Rattle.cmd_restart.specs.Restart.{LeavesRestarted, StaysRestarted}
use Rattle.cmd_resume.specs.Resume.{LeavesResumed}
use Rattle.cmd_rewind.specs.Rewind.{LeavesRewound}
use Rattle.cmd_walcompare.specs.Walcompare.{AreSame}
use Rattle.cmd_walreplay.specs.Walreplay.{LeavesReplayed, StaysMarked}
use Rattle.pair_maker.specs.Pair.{StaysBeside}
use Rattle.run_acts.specs.declared.cause.Cause.{Cause}

-- What a run leaves that is done. A rewind that was asked for, needed and made leaves the rewound tree below the target's root, path by path. A resume
-- leaves what its changes make, and where no complete mark stands what a rewind leaves. A replay leaves the replayed files, and standard output goes on by
-- the line on their log; one that can be started again what is meant of it, by what the mark told, and the line on that. Of a comparison the two clusters are the same. Of pair the three clusters were made and tried, and standard output goes on by the
-- line on them.
abbrev pub LeavesAsked : Option Extension → Result Command CommandFault → ℤ → (tells : Bool) → (c c' : Contents) → (out out' : List ℕ) → Type 0
LeavesAsked custom (Ok (command.Rewind words)) now tells c c' out out' = LeavesRewound words now c c'
LeavesAsked custom (Ok (command.Resume words)) now tells c c' out out' = LeavesResumed words now c c'
LeavesAsked custom (Ok (command.Controldata words)) now tells c c' out out' = Unit {0}
LeavesAsked custom (Ok (command.Waldump words)) now tells c c' out out' = Unit {0}
LeavesAsked custom (Ok (command.Resetwal words)) now tells c c' out out' = Unit {0}
LeavesAsked custom (Ok (command.Archivecleanup words)) now tells c c' out out' = Unit {0}
LeavesAsked custom (Ok (command.Walreplay words)) now tells c c' out out' = LeavesReplayed custom words tells c c' out out'
LeavesAsked custom (Ok (command.Restart words)) now tells c c' out out' = LeavesRestarted custom words tells c c' out out'
LeavesAsked custom (Ok (command.Walcompare words)) now tells c c' out out' = AreSame c words
LeavesAsked custom (Ok (command.Pair words)) now tells c c' out out' = LeavesPair words tells c c' out out'
LeavesAsked custom (Err e) now tells c c' out out' = Unit {0}

-- What a run leaves whatever its cause. A replay leaves the log as it was, and the mark where it is refused behind its first change; one that can be
-- started again also has the cause of the first point that refuses, or a free one, and changes nothing before every check has passed; pair
-- leaves all but its three clusters as it was.
abbrev pub StaysAsked : Option Extension → Result Command CommandFault → (c c' : Contents) → (ended : Cause) → Type 0
StaysAsked custom (Ok (command.Rewind words)) c c' ended = Unit {0}
StaysAsked custom (Ok (command.Resume words)) c c' ended = Unit {0}
StaysAsked custom (Ok (command.Controldata words)) c c' ended = Unit {0}
StaysAsked custom (Ok (command.Waldump words)) c c' ended = Unit {0}
StaysAsked custom (Ok (command.Resetwal words)) c c' ended = Unit {0}
StaysAsked custom (Ok (command.Archivecleanup words)) c c' ended = Unit {0}
StaysAsked custom (Ok (command.Walreplay words)) c c' ended = StaysMarked custom words c c' ended
StaysAsked custom (Ok (command.Restart words)) c c' ended = StaysRestarted custom words c c' ended
StaysAsked custom (Ok (command.Walcompare words)) c c' ended = Unit {0}
StaysAsked custom (Ok (command.Pair words)) c c' ended = StaysBeside words.root c c'
StaysAsked custom (Err e) c c' ended = Unit {0}
