-- What pg_walreplay does: PostgreSQL 16, src/backend/access/transam/xlogrecovery.c, PerformWalRecovery. Own: "The answer of a replay", "Commands of this project's own".
use Rattle.std.specs.Prelude.{Option, ◌≡◌, ◌⊎◌, ◌++◌, ℕ, Bool, IsTrue, true, List, [], ◌∷◌, codes, decimal, None, Some, Result, Ok, Err}
use Rattle.rmgr_hooks.specs.Custom.{Extension}
use Rattle.std.specs.List.{concat}
use Rattle.block_refs.specs.declared.names.BlockName.{BlockName}
use Rattle.block_replay.specs.declared.faults.RecordFault.{RecordFault}
use Rattle.cluster_tree.specs.Contents.{Contents}
use Rattle.cluster_tree.specs.Marks.{is_there}
use Rattle.cluster_tree.specs.Run.{Moment}
use Rattle.wal_base.specs.Lsn.{lsn_text}
use Rattle.replay_start.specs.Checked.{Start, start_of}
use Rattle.replay_start.specs.declared.fault.ReplayFault.{ReplayFault}
use Rattle.replay_start.specs.declared.fault.ReplayFault.TheVariants as fault
use Rattle.replay_core.specs.Faults.{of_record}
use Rattle.replay_core.specs.Replayed.{After, after_replay, first_world, mark_of, replayed_into}
use Rattle.replay_core.specs.Stops.{IsLeftByReplay, first_standing}
use Rattle.replay_core.specs.Within.{IsMarked, LogStays}
use Rattle.commands.specs.declared.walreplay.WalreplayWords.{WalreplayWords}
use Rattle.acts.specs.Acts.{Act, Look, Print, Within}
use Rattle.run_acts.specs.Answers.{Answer, does, refused}
use Rattle.run_acts.specs.Causes.{IsFree, IsOfLook}
use Rattle.run_acts.specs.declared.cause.Cause.{Cause}
use Rattle.run_acts.specs.declared.cause.Cause.TheVariants as cause
use Rattle.run_acts.specs.declared.cause.LogCause.TheVariants as logs
use Rattle.run_acts.specs.declared.cause.PathCause.TheVariants as paths
use Rattle.run_acts.specs.declared.cause.ReplayCause.TheVariants as replay
use Rattle.run_acts.specs.declared.cause.RewindCause.TheVariants as unfit
use Rattle.cluster_causes.specs.Clusters.{cluster_cause}

-- the cause of a fault
abbrev pub replay_cause : ReplayFault → Cause
replay_cause (fault.Cluster e) = cluster_cause e
replay_cause (fault.ChecksumsOn root) = cause.Replay (replay.ChecksumsOn root)
replay_cause (fault.NoHints root) = cause.Rewind (unfit.NoHints root)
replay_cause (fault.NoLabel root) = cause.Replay (replay.NoLabel root)
replay_cause (fault.BadLabel root n) = cause.Replay (replay.BadLabel root n)
replay_cause (fault.BadParts at offset) = cause.Log (logs.BadParts at offset)
replay_cause (fault.Compressed at id) = cause.Log (logs.Compressed at id)
replay_cause (fault.NotInProfile at manager info) = cause.Replay (replay.NotInProfile at manager info)
replay_cause (fault.EndsTooSoon end least) = cause.Replay (replay.EndsTooSoon end least)
replay_cause (fault.RedoFailed at name why) = cause.Replay (replay.RedoFailed at name why)
replay_cause (fault.MissingPage name) = cause.Replay (replay.MissingPage name)
replay_cause (fault.Link path) = cause.Paths (paths.Link path)
replay_cause (fault.NotFolder path) = cause.Paths (paths.NotFolder path)
replay_cause (fault.KindsDiffer path) = cause.Rewind (unfit.KindsDiffer path)
replay_cause (fault.NameNotText path) = cause.Paths (paths.NameNotText path)
replay_cause (fault.TooDeep path) = cause.Paths (paths.TooDeep path)
replay_cause fault.WriteFault = cause.WriteFault

-- what is told of a replay that is done: the number of records, where the last of them ends, and the timeline
unfoldable pub replayed_line : (records end tli : ℕ) → List ℕ
replayed_line records end tli =
    concat (codes "pg_walreplay: replayed " ∷ decimal records ∷ codes " records to " ∷ lsn_text end ∷ codes " on timeline " ∷ decimal tli ∷ codes "\n" ∷ [])

-- a replay that is done: changes below the root, which leave these files, and then the line
abbrev pub done_acts : WalreplayWords → Contents → List ℕ → List Act
done_acts words files line = Within (words.root ∷ []) (Some files) ∷ Print line ∷ []

abbrev pub after_line : After → List ℕ
after_line a = replayed_line a.records a.end a.tli

-- a replay that breaks off at a record, or behind the last one: changes below the root, and then the cause
abbrev pub broken : WalreplayWords → Cause → Answer
broken words e = record { acts = Look ∷ Within (words.root ∷ []) None ∷ []; refusal = Some e }

-- what is done once the cluster and its whole log are checked
abbrev pub begun_answer : WalreplayWords → Result After ReplayFault → Answer
begun_answer words (Ok a) = does (done_acts words a.files (after_line a))
begun_answer words (Err e) = broken words (replay_cause e)

abbrev pub checked_answer : Option Extension → Contents → WalreplayWords → Result Start ReplayFault → Answer
checked_answer custom c words (Ok s) = begun_answer words (replayed_into custom words.root s (first_world c words.root s))
checked_answer custom c words (Err e) = refused (replay_cause e)

-- what is done about a cluster: every check comes before the first change
abbrev pub walreplay_answer : Option Extension → Contents → WalreplayWords → Answer
walreplay_answer custom c words = checked_answer custom c words (start_of custom c words.root)

-- over every tree: changes below the root and a line on some replay; or a refusal while it looks; or changes below the root, and then a refusal at a
-- record, or of a block that isn't there
abbrev pub IsWalreplay : WalreplayWords → Answer → Type 0
IsWalreplay words answer =
    ((files : Contents) × (told : After) × (answer ≡ does (done_acts words files (after_line told))))
    ⊎ ((e : Cause) × IsOfLook e × (answer ≡ refused e))
    ⊎ ((f : RecordFault) × (answer ≡ broken words (replay_cause (of_record f))))
    ⊎ ((name : BlockName) × (answer ≡ broken words (cause.Replay (replay.MissingPage name))))

-- a replay that is done leaves what is meant, and its line behind what was told before
pub record LeavesReplayed (custom : Option Extension) (words : WalreplayWords) (tells : Bool) (c c' : Contents) (out out' : List ℕ) : Type 0 where
  pub after : After
  pub meant : after_replay custom c words.root ≡ Ok after
  pub files : c' ≡ after.files
  pub told : IsTrue tells → out' ≡ out ++ after_line after

-- whatever the answer, the log is as it was, and what is refused behind the first change leaves its mark, so that a later run is refused
pub record StaysMarked (custom : Option Extension) (words : WalreplayWords) (c c' : Contents) (ended : Cause) : Type 0 where
  pub log : LogStays words.root c c'
  pub mark : (s : Start) → start_of custom c words.root ≡ Ok s → IsFree ended ⊎ (ended ≡ cause.Done) ⊎ IsMarked words.root c'

-- a stop at any moment leaves the cluster untouched, marked, or as it is meant to be left
abbrev pub IsLeftByWalreplay : Option Extension → WalreplayWords → Moment → Contents → Type 0
IsLeftByWalreplay custom words first c = IsLeftByReplay custom words.root first c

-- what it left marked is refused, with its mark, or with that of a rewind where one stands
abbrev pub MarkIsRefused : Type 0
MarkIsRefused = (custom : Option Extension) (words : WalreplayWords) (c : Contents) → is_there c (mark_of words.root) ≡ true → walreplay_answer custom c words ≡ refused (cause.Unfinished (first_standing c words.root))
