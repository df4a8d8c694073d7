-- Two alike clusters of the kinds that servers leave are both replayed to the end.
use Rattle.std.proofs.Common.{◌≡◌, ℕ, List, [], length, Option, Result, Ok, Err, refl, sym, ap, subst, ◌∙◌, arith}
use Rattle.rmgr_hooks.specs.Custom.{Extension, IsSound}
use Rattle.alike_clusters.specs.Clusters.{AlikeClusters}
use Rattle.block_refs.specs.declared.names.BlockName.{BlockName}
use Rattle.block_replay.specs.declared.faults.RecordFault.{RecordFault}
use Rattle.block_replay.specs.declared.faults.RecordFault.TheVariants.{RedoFailed, File}
use Rattle.cluster_laws.specs.Kinds.{HasKinds}
use Rattle.cluster_laws.specs.KindLaws.{FindsKinds}
use Rattle.cluster_laws.proofs.kinds.KindLemmas.{put-kinds}
use Rattle.cluster_laws.proofs.kinds.RecordLemmas.{log-finds}
use Rattle.cluster_tree.specs.Causes.{given, unless}
use Rattle.cluster_tree.specs.Contents.{Contents, FileEntry}
use Rattle.cluster_tree.specs.PathValue.{PathValue, below}
use Rattle.cluster_tree.proofs.ContentsLemmas.{written-new}
use Rattle.control_file.specs.Reading.{timeline_of}
use Rattle.replay_core.specs.Faults.{recorded}
use Rattle.replay_core.specs.Replayed.{After, after_replay, closed, closed_or, end_of, first_world, mark_text, missing_page, replayed_into}
use Rattle.replay_laws.specs.Log.{AreTaken, HoldsBytes}
use Rattle.replay_laws.specs.Refusals.{SomeLacksLayout}
use Rattle.replay_laws.proofs.CheckedLemmas.{start-taken}
use Rattle.replay_start.specs.Checked.{Start, start_of}
use Rattle.replay_start.specs.declared.fault.ReplayFault.{ReplayFault}
use Rattle.replay_world.specs.Records.{records_after}
use Rattle.replay_world.specs.World.{World}
use Rattle.page_layout.specs.declared.refusal.RedoWhy.{RedoWhy}
use Rattle.wal_base.specs.declared.lsn.Lsn.{Lsn}
use Rattle.cluster_laws.specs.Converging.{IsBased}
use Rattle.cluster_laws.specs.Replays.{BothEnd}
use Rattle.cluster_laws.proofs.BasedLemmas.{based-goes, none-left}
use Rattle.cluster_laws.proofs.EndLemmas.{mark_parts}
use Rattle.cluster_laws.proofs.ReplayLemmas.{ends-as}

abbrev OkAfter : After → Result After ReplayFault
OkAfter a = Ok a

module _ (custom : Option Extension) (sound : IsSound custom) (base : BlockName → Option (List ℕ)) (redo : ℕ) (c d : Contents) (root other : PathValue) (s : Start)
    (both : AlikeClusters s.control.relseg c root d other) (holds : HoldsBytes c root) (kinds : HasKinds root c) (passes : start_of custom c root ≡ Ok s) (enough : ¬ (SomeLacksLayout s.records))
    (one : IsBased custom base redo s.records root s.control.relseg (first_world c root s)) (two : IsBased custom base redo s.records other s.control.relseg (first_world d other s)) where
  abbrev per : ℕ
  per = s.control.relseg

  abbrev first : World
  first = first_world c root s

  taken : AreTaken custom s.label.start.0 s.records
  taken = start-taken custom c root s holds passes

  begun_kinds : HasKinds root first.files
  begun_kinds =
      subst (HasKinds root) (sym (written-new c (below root mark_parts) mark_text)) (put-kinds root mark_parts (FileEntry mark_text) c (omega arith) tt kinds)

  refused : (at : Lsn) (name : BlockName) (why : RedoWhy) → records_after custom root per s.records first ≡ Err (RedoFailed at name why) → ⊥
  refused at name why is = based-goes custom sound base s.label.start.0 redo s.records root per first taken one enough at name why is

  record Left : Type 0 where
    world : World
    is : records_after custom root per s.records first ≡ Ok world

  left_by : (r : Result World RecordFault) → records_after custom root per s.records first ≡ r → FindsKinds root r → Left
  left_by (Ok v) is finds = record { world = v; is = is }
  left_by (Err (RedoFailed at name why)) is finds = absurd (refused at name why is)
  left_by (Err (File e)) is finds = absurd finds

  left : Left
  left = left_by (records_after custom root per s.records first) refl (log-finds custom root per s.records first begun_kinds)

  none : left.world.skipped ≡ []
  none = none-left custom sound base s.label.start.0 redo s.records root per first taken one left.world left.is

  abbrev after : After
  after = closed root (timeline_of s.control) (length s.records) (end_of s) left.world

  run : replayed_into custom root s first ≡ Ok after
  run =
      ap (λ r. given (recorded r) (closed_or root (timeline_of s.control) (length s.records) (end_of s))) left.is
      ∙ ap (λ o. unless (missing_page o) (OkAfter after)) none

  ends : after_replay custom c root ≡ Ok after
  unfolding after_replay
  ends = ap (λ r. given r (λ t. replayed_into custom root t (first_world c root t))) passes ∙ run

  pub both-end : BothEnd custom c root d other s
  both-end = record { after = after; ends = ends; alike = ends-as custom sound base redo c d root other s after both holds passes enough one two ends }
