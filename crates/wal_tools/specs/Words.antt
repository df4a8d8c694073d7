-- What the words alone decide, whatever files there are: PostgreSQL 16 manual, reference pages of pg_rewind, pg_controldata, pg_waldump, pg_resetwal and pg_archivecleanup.
-- Own: "Commands of this project's own".
use Rattle.std.specs.Prelude.{◌≡◌, ◌⊎◌, IsTrue, not, is_some, Option, None, Some, Result, Ok, Err}
use Rattle.commands.specs.declared.command.Command.{Command}
use Rattle.commands.specs.declared.command.Command.TheVariants as command
use Rattle.commands.specs.declared.fault.CommandFault.{CommandFault}
use Rattle.commands.specs.declared.fault.CommandFault.TheVariants as fault
use Rattle.run_acts.specs.declared.cause.Cause.{Cause}
use Rattle.run_acts.specs.declared.cause.Cause.TheVariants as cause
use Rattle.run_acts.specs.declared.cause.PathCause.TheVariants as paths
use Rattle.cmd_waldump.specs.Waldump.{AskForList, BreakRule}

-- the cause of words that ask for no command
abbrev pub words_cause : CommandFault → Cause
words_cause fault.Usage = cause.Usage
words_cause fault.DotDot = cause.Paths paths.DotDot
words_cause (fault.TooDeep path) = cause.Paths (paths.TooDeep path)
words_cause fault.PathsOverlap = cause.Paths paths.PathsOverlap
words_cause fault.OutOfMemory = cause.OutOfMemory

-- why the words alone refuse, if they do: they ask for no command
abbrev pub refused_by_words : Result Command CommandFault → Option Cause
refused_by_words (Ok (command.Rewind words)) = None
refused_by_words (Ok (command.Resume words)) = None
refused_by_words (Ok (command.Controldata words)) = None
refused_by_words (Ok (command.Waldump words)) = None
refused_by_words (Ok (command.Resetwal words)) = None
refused_by_words (Ok (command.Archivecleanup words)) = None
refused_by_words (Ok (command.Walreplay words)) = None
refused_by_words (Ok (command.Restart words)) = None
refused_by_words (Ok (command.Walcompare words)) = None
refused_by_words (Ok (command.Pair words)) = None
refused_by_words (Err e) = Some (words_cause e)

-- Words are faulty: they are in no command's grammar, or they are pg_waldump's and break a rule on its start and its end where segments have some size.
abbrev pub AreFaulty : Result Command CommandFault → Type 0
AreFaulty (Ok (command.Rewind words)) = ⊥
AreFaulty (Ok (command.Resume words)) = ⊥
AreFaulty (Ok (command.Controldata words)) = ⊥
AreFaulty (Ok (command.Waldump words)) = BreakRule words
AreFaulty (Ok (command.Resetwal words)) = ⊥
AreFaulty (Ok (command.Archivecleanup words)) = ⊥
AreFaulty (Ok (command.Walreplay words)) = ⊥
AreFaulty (Ok (command.Restart words)) = ⊥
AreFaulty (Ok (command.Walcompare words)) = ⊥
AreFaulty (Ok (command.Pair words)) = ⊥
AreFaulty (Err e) = e ≡ fault.Usage

-- what is asked for needs no tree: the list of resource managers, and words that refuse alone
abbrev pub NeedsNoTree : Result Command CommandFault → Type 0
NeedsNoTree (Ok (command.Rewind words)) = ⊥
NeedsNoTree (Ok (command.Resume words)) = ⊥
NeedsNoTree (Ok (command.Controldata words)) = ⊥
NeedsNoTree (Ok (command.Waldump words)) = AskForList words
NeedsNoTree (Ok (command.Resetwal words)) = ⊥
NeedsNoTree (Ok (command.Archivecleanup words)) = ⊥
NeedsNoTree (Ok (command.Walreplay words)) = ⊥
NeedsNoTree (Ok (command.Restart words)) = ⊥
NeedsNoTree (Ok (command.Walcompare words)) = ⊥
NeedsNoTree (Ok (command.Pair words)) = ⊥
NeedsNoTree (Err e) = Unit {0}

-- a command that may make changing calls: pg_rewind, pg_resetwal and pg_archivecleanup, but for a dry run, pg_walreplay and pair
abbrev pub MayChange : Result Command CommandFault → Type 0
MayChange (Ok (command.Rewind words)) = IsTrue (not words.dry_run)
MayChange (Ok (command.Resume words)) = IsTrue (not words.dry_run)
MayChange (Ok (command.Controldata words)) = ⊥
MayChange (Ok (command.Waldump words)) = ⊥
MayChange (Ok (command.Resetwal words)) = IsTrue (not (is_some words.options.dry))
MayChange (Ok (command.Archivecleanup words)) = IsTrue (not words.dry_run)
MayChange (Ok (command.Walreplay words)) = Unit {0}
MayChange (Ok (command.Restart words)) = Unit {0}
MayChange (Ok (command.Walcompare words)) = ⊥
MayChange (Ok (command.Pair words)) = Unit {0}
MayChange (Err e) = ⊥

-- a command that walks over folders, or removes those that a record names, and may find a path below its roots that is too deep
abbrev pub Walks : Result Command CommandFault → Type 0
Walks (Ok (command.Rewind words)) = Unit {0}
Walks (Ok (command.Resume words)) = Unit {0}
Walks (Ok (command.Controldata words)) = ⊥
Walks (Ok (command.Waldump words)) = ⊥
Walks (Ok (command.Resetwal words)) = ⊥
Walks (Ok (command.Archivecleanup words)) = ⊥
Walks (Ok (command.Walreplay words)) = Unit {0}
Walks (Ok (command.Restart words)) = Unit {0}
Walks (Ok (command.Walcompare words)) = Unit {0}
Walks (Ok (command.Pair words)) = ⊥
Walks (Err e) = ⊥

-- what a run does to the tree is seen: the tree tells what it holds, or the command changes nothing
abbrev pub IsSeen : (tells : Type 0) → Result Command CommandFault → Type 0
IsSeen tells asked = tells ⊎ (MayChange asked → ⊥)

-- It is known which answer is meant: the tree tells what it holds, or what is asked for needs no tree. Of a replay that can be started again no one answer
-- is: more than one may be meant of the same contents.
abbrev pub IsKnown : (tells : Type 0) → Result Command CommandFault → Type 0
IsKnown tells (Ok (command.Rewind words)) = tells
IsKnown tells (Ok (command.Resume words)) = tells
IsKnown tells (Ok (command.Controldata words)) = tells
IsKnown tells (Ok (command.Waldump words)) = tells ⊎ AskForList words
IsKnown tells (Ok (command.Resetwal words)) = tells
IsKnown tells (Ok (command.Archivecleanup words)) = tells
IsKnown tells (Ok (command.Walreplay words)) = tells
IsKnown tells (Ok (command.Restart words)) = ⊥
IsKnown tells (Ok (command.Walcompare words)) = tells
IsKnown tells (Ok (command.Pair words)) = tells
IsKnown tells (Err e) = Unit {0}
