-- What each command does about its words, act by act; each has a room of its own.
use Rattle.std.specs.Prelude.{◌≡◌, ℤ, Option, Result, Ok, Err}
use Rattle.cluster_tree.specs.Contents.{Contents}
use Rattle.commands.specs.declared.command.Command.{Command}
use Rattle.commands.specs.declared.command.Command.TheVariants as command
use Rattle.commands.specs.declared.fault.CommandFault.{CommandFault}
use Rattle.run_acts.specs.Answers.{Answer, refused}
use Rattle.cmd_archivecleanup.specs.Archivecleanup.{IsArchivecleanup, archivecleanup_answer}
use Rattle.cmd_controldata.specs.Controldata.{IsControldata, controldata_answer}
use Rattle.cmd_pair.specs.Pair.{IsPair, pair_answer}
use Rattle.cmd_resetwal.specs.Resetwal.{IsResetwal, resetwal_answer}
use Rattle.cmd_restart.specs.Restart.{IsRestartIn, unknown_answer}
use Rattle.cmd_resume.specs.Resume.{IsResume, resume_answer}
use Rattle.cmd_rewind.specs.Rewind.{IsRewind, rewind_answer}
use Rattle.cmd_walcompare.specs.Walcompare.{IsWalcompare, walcompare_answer}
use Rattle.cmd_waldump.specs.Waldump.{IsWaldump, waldump_answer}
use Rattle.cmd_walreplay.specs.Walreplay.{IsWalreplay, walreplay_answer}
use Rattle.wal_tools.specs.Words.{words_cause}
use Rattle.rmgr_hooks.specs.Custom.{Extension}

-- What is done about the words, from the contents and the time in seconds since 1970. Of a replay that can be started again no one answer is known
-- (`IsKnown`): `IsAnswer` says what those are that may be meant.
abbrev pub answered : Option Extension → Contents → ℤ → Result Command CommandFault → Answer
answered custom c now (Ok (command.Rewind words)) = rewind_answer c c words now
answered custom c now (Ok (command.Resume words)) = resume_answer c words now
answered custom c now (Ok (command.Controldata words)) = controldata_answer c words
answered custom c now (Ok (command.Waldump words)) = waldump_answer custom c words
answered custom c now (Ok (command.Resetwal words)) = resetwal_answer c words now
answered custom c now (Ok (command.Archivecleanup words)) = archivecleanup_answer c words
answered custom c now (Ok (command.Walreplay words)) = walreplay_answer custom c words
answered custom c now (Ok (command.Restart words)) = unknown_answer
answered custom c now (Ok (command.Walcompare words)) = walcompare_answer c words
answered custom c now (Ok (command.Pair words)) = pair_answer c words
answered custom c now (Err e) = refused (words_cause e)

-- what the command may do over any tree; of a replay that can be started again also what may be meant of the contents, where the tree tells them
abbrev pub IsAnswer : (tells : Type 0) → Option Extension → Contents → ℤ → Result Command CommandFault → Answer → Type 0
IsAnswer tells custom c now (Ok (command.Rewind words)) answer = IsRewind words answer
IsAnswer tells custom c now (Ok (command.Resume words)) answer = IsResume words answer
IsAnswer tells custom c now (Ok (command.Controldata words)) answer = IsControldata answer
IsAnswer tells custom c now (Ok (command.Waldump words)) answer = IsWaldump words answer
IsAnswer tells custom c now (Ok (command.Resetwal words)) answer = IsResetwal words now answer
IsAnswer tells custom c now (Ok (command.Archivecleanup words)) answer = IsArchivecleanup words answer
IsAnswer tells custom c now (Ok (command.Walreplay words)) answer = IsWalreplay words answer
IsAnswer tells custom c now (Ok (command.Restart words)) answer = IsRestartIn tells custom c words answer
IsAnswer tells custom c now (Ok (command.Walcompare words)) answer = IsWalcompare answer
IsAnswer tells custom c now (Ok (command.Pair words)) answer = IsPair words answer
IsAnswer tells custom c now (Err e) answer = answer ≡ refused (words_cause e)
