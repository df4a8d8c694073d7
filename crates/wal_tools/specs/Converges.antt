-- The promise of pg_rewind: PostgreSQL 16 manual, reference page of pg_rewind, "How It Works". Own: "A rewound target and a whole copy", "Clusters that grew
-- from one state".
use Rattle.std.specs.Prelude.{Option, ◌≡◌, ℤ, false, Result, Ok, Err}
use Rattle.rmgr_hooks.specs.Custom.{Extension}
use Rattle.cluster_tree.specs.Contents.{Contents}
use Rattle.commands.specs.declared.command.Command.{Command}
use Rattle.commands.specs.declared.command.Command.TheVariants as command
use Rattle.commands.specs.declared.fault.CommandFault.{CommandFault}
use Rattle.rewind_core.specs.Planned.{Needing, Needs, planned_of}
use Rattle.rewound_laws.specs.Converge.{Follows}
use Rattle.wal_tools.specs.Restarted.{ConvergesRestarted}
use Rattle.wal_tools.specs.Resumed.{ConvergesResumed}

-- A rewind that was asked for and needed, and that is done, leaves a target that follows its source; and so does one that was
-- stopped and is resumed. A replay that was stopped and is started again leaves what one run does. Of other commands nothing is said.
abbrev pub ConvergesAsked : Option Extension → Result Command CommandFault → ℤ → (c c' : Contents) → Type 0
ConvergesAsked custom (Ok (command.Rewind words)) now c c' =
    (n : Needing) → words.dry_run ≡ false → planned_of c words.target words.source now ≡ Ok (Needs n) → Follows custom c words.target n c'
ConvergesAsked custom (Ok (command.Resume words)) now c c' = ConvergesResumed custom words now c c'
ConvergesAsked custom (Ok (command.Controldata words)) now c c' = Unit {0}
ConvergesAsked custom (Ok (command.Waldump words)) now c c' = Unit {0}
ConvergesAsked custom (Ok (command.Resetwal words)) now c c' = Unit {0}
ConvergesAsked custom (Ok (command.Archivecleanup words)) now c c' = Unit {0}
ConvergesAsked custom (Ok (command.Walreplay words)) now c c' = Unit {0}
ConvergesAsked custom (Ok (command.Restart words)) now c c' = ConvergesRestarted custom words c c'
ConvergesAsked custom (Ok (command.Walcompare words)) now c c' = Unit {0}
ConvergesAsked custom (Ok (command.Pair words)) now c c' = Unit {0}
ConvergesAsked custom (Err e) now c c' = Unit {0}
