-- The forms of what pg_walreplay does.
use Rattle.std.proofs.Common.{length, inl, inr, refl, Option, None, Some, option_map, Result, Ok, Err}
use Rattle.rmgr_hooks.specs.Custom.{Extension}
use Rattle.block_refs.specs.declared.names.BlockName.{BlockName}
use Rattle.block_replay.specs.World.{least_name}
use Rattle.block_replay.specs.declared.faults.RecordFault.{RecordFault}
use Rattle.cluster_tree.specs.Causes.{given, unless}
use Rattle.cluster_tree.specs.Contents.{Contents}
use Rattle.control_file.specs.Reading.{timeline_of}
use Rattle.commands.specs.declared.walreplay.WalreplayWords.{WalreplayWords}
use Rattle.replay_start.specs.Checked.{Start, start_of}
use Rattle.replay_start.specs.declared.fault.ReplayFault.{ReplayFault}
use Rattle.replay_start.specs.declared.fault.ReplayFault.TheVariants as fault
use Rattle.replay_core.specs.Faults.{recorded}
use Rattle.replay_core.specs.Replayed.{After, closed, closed_or, end_of, first_world, replayed_into}
use Rattle.replay_world.specs.Records.{records_after}
use Rattle.replay_world.specs.World.{World}
use Rattle.run_acts.proofs.AnswerSteps.{Looks}
use Rattle.cmd_walreplay.specs.Walreplay.{IsWalreplay, begun_answer, checked_answer, replay_cause, walreplay_answer}
use Rattle.cmd_walreplay.proofs.MeantLemmas.{LooksIn, start-looks}

module _ (custom : Option Extension) (c : Contents) (words : WalreplayWords) where
  missing-form : (o : Option BlockName) (a : After) → IsWalreplay words (begun_answer words (unless (option_map fault.MissingPage o) (Ok a)))
  missing-form None a = inl (a.files, a, refl)
  missing-form (Some name) a = inr (inr (inr (name, refl)))

  records-form : (s : Start) (r : Result World RecordFault) → IsWalreplay words (begun_answer words (given (recorded r) (closed_or words.root (timeline_of s.control) (length s.records) (end_of s))))
  records-form s (Ok w) = missing-form (least_name w.skipped) (closed words.root (timeline_of s.control) (length s.records) (end_of s) w)
  records-form s (Err f) = inr (inr (inl (f, refl)))

  checked-form : (r : Result Start ReplayFault) → LooksIn r → IsWalreplay words (checked_answer custom c words r)
  checked-form (Ok s) looks = records-form s (records_after custom words.root s.control.relseg s.records (first_world c words.root s))
  checked-form (Err f) looks = inr (inl (replay_cause f, looks, refl))

  pub answer-form : IsWalreplay words (walreplay_answer custom c words)
  answer-form = checked-form (start_of custom c words.root) (start-looks custom c words.root)

  begun-looks : (r : Result After ReplayFault) → Looks ((begun_answer words r).acts)
  begun-looks (Ok a) = tt
  begun-looks (Err f) = tt

  checked-looks : (r : Result Start ReplayFault) → Looks ((checked_answer custom c words r).acts)
  checked-looks (Ok s) = begun-looks (replayed_into custom words.root s (first_world c words.root s))
  checked-looks (Err f) = tt

  pub answer-looks : Looks ((walreplay_answer custom c words).acts)
  answer-looks = checked-looks (start_of custom c words.root)
