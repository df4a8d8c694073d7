-- Where the replay of a cluster ends, and its records end in another alike one too, that one's replay ends.
use Rattle.std.proofs.Common.{◌≡◌, List, [], ◌∷◌, length, Option, None, Result, Ok, Err, refl, sym, ap, ◌∙◌}
use Rattle.rmgr_hooks.specs.Custom.{Extension}
use Rattle.alike_clusters.specs.Clusters.{AlikeClusters}
use Rattle.block_refs.specs.declared.names.BlockName.{BlockName}
use Rattle.block_replay.specs.declared.faults.RecordFault.{RecordFault}
use Rattle.cluster_tree.specs.Causes.{given, unless}
use Rattle.cluster_tree.specs.Change.{all_changed}
use Rattle.cluster_tree.specs.Contents.{Contents}
use Rattle.cluster_tree.specs.PathValue.{PathValue}
use Rattle.control_file.specs.Reading.{timeline_of}
use Rattle.control_file.specs.declared.control.Control.{Control}
use Rattle.replay_control.specs.Following.{control_left}
use Rattle.replay_core.specs.Faults.{recorded}
use Rattle.replay_core.specs.Replayed.{After, after_replay, closed, closed_or, closing, end_of, first_world, missing_page, replayed_into}
use Rattle.replay_laws.proofs.WorldLemmas.{given-ok, not-refused}
use Rattle.replay_start.specs.Checked.{Start, start_of}
use Rattle.replay_start.specs.declared.fault.ReplayFault.{ReplayFault}
use Rattle.replay_world.specs.Records.{records_after}
use Rattle.replay_world.specs.World.{World}
use Rattle.wal_pages.specs.declared.log_path.LogPath.{LogPath}
use Rattle.cluster_laws.specs.Starts.{StartsAs}
use Rattle.cluster_laws.proofs.EndLemmas.{closed-both}
use Rattle.cluster_laws.proofs.StartLemmas.{starts-as}

abbrev OkWorld : World → Result World RecordFault
OkWorld v = Ok v

abbrev OkAfter : After → Result After ReplayFault
OkAfter a = Ok a

recorded_ok : (r : Result World RecordFault) (v : World) → recorded r ≡ Ok v → r ≡ Ok v
recorded_ok (Ok w) v e = let same : w ≡ v = cc in ap OkWorld same
recorded_ok (Err f) v e = absurd cc

one_after : (a b : After) → OkAfter a ≡ Ok b → a ≡ b
one_after a b e = cc

missing_none : (skipped : List BlockName) → missing_page skipped ≡ None → skipped ≡ []
missing_none [] h = refl
missing_none (name ∷ more) h = absurd cc

-- a start by what it says, wherever its log lies
abbrev said : Start → LogPath → Start
said s log = record { control = s.control; label = s.label; log = log; records = s.records }

same_start : (s t : Start) → t.control ≡ s.control → t.label ≡ s.label → t.records ≡ s.records → t ≡ said s t.log
same_start s t a b e =
    ap (λ x. record { control = x; label = t.label; log = t.log; records = t.records }) a
    ∙ ap (λ x. record { control = s.control; label = x; log = t.log; records = t.records }) b
    ∙ ap (λ x. record { control = s.control; label = s.label; log = t.log; records = x }) e

-- what a log leaves that is replayed whole, and what is told of it
abbrev pub closed-by : PathValue → Start → World → After
closed-by root s v = closed root (timeline_of s.control) (length s.records) (end_of s) v

abbrev pub left-by : Start → World → Control
left-by s v = control_left (timeline_of s.control) (end_of s) v.control

module _ (custom : Option Extension) (c : Contents) (root : PathValue) (s : Start) (after : After) (passes : start_of custom c root ≡ Ok s) (ends : after_replay custom c root ≡ Ok after) where
  run : replayed_into custom root s (first_world c root s) ≡ Ok after
  unfolding after_replay
  run = sym (ap (λ r. given r (λ t. replayed_into custom root t (first_world c root t))) passes) ∙ ends

  -- the records end, no block is missing, and this is what is left
  pub record Ended : Type 0 where
    pub world : World
    pub is : records_after custom root s.control.relseg s.records (first_world c root s) ≡ Ok world
    pub none : world.skipped ≡ []
    pub after_is : closed-by root s world ≡ after

  pub ended : Ended
  ended =
      let got = given-ok (recorded (records_after custom root s.control.relseg s.records (first_world c root s))) (closed_or root (timeline_of s.control) (length s.records) (end_of s)) after run in
      let last = not-refused (missing_page got.0.skipped) (OkAfter (closed-by root s got.0)) after got.2 in
      record {
        world = got.0;
        is = recorded_ok (records_after custom root s.control.relseg s.records (first_world c root s)) got.0 got.1;
        none = missing_none got.0.skipped last.0;
        after_is = one_after (closed-by root s got.0) after last.1;
      }

  module _ (d : Contents) (other : PathValue) (both : AlikeClusters s.control.relseg c root d other) (y : World)
      (is : records_after custom other s.control.relseg s.records (first_world d other s) ≡ Ok y) (none : y.skipped ≡ []) where
    there : StartsAs custom d other s
    there = starts-as custom s.control.relseg root other c d both s passes

    other_run : replayed_into custom other (said s there.start.log) (first_world d other s) ≡ Ok (closed-by other s y)
    other_run =
        ap (λ r. given (recorded r) (closed_or other (timeline_of s.control) (length s.records) (end_of s))) is
        ∙ ap (λ o. unless (missing_page o) (OkAfter (closed-by other s y))) none

    pub other-ends : after_replay custom d other ≡ Ok (closed-by other s y)
    unfolding after_replay
    other-ends =
        ap (λ r. given r (λ t. replayed_into custom other t (first_world d other t))) there.passes
        ∙ ap (λ (t : Start). replayed_into custom other t (first_world d other t)) (same_start s there.start there.control there.label there.records)
        ∙ other_run

    -- where both write the same control file
    module _ (control : ended.world.control ≡ y.control) where
      pub other-left : all_changed y.files (closing other (left-by s ended.world)) ≡ all_changed y.files (closing other (left-by s y))
      other-left = ap (λ x. all_changed y.files (closing other (control_left (timeline_of s.control) (end_of s) x))) control

      pub own-left : all_changed ended.world.files (closing root (left-by s ended.world)) ≡ after.files
      own-left = ap (λ (a : After). a.files) ended.after_is

      pub left-alike : AlikeClusters s.control.relseg ended.world.files root y.files other
          → AlikeClusters s.control.relseg (all_changed ended.world.files (closing root (left-by s ended.world))) root (all_changed y.files (closing other (left-by s ended.world))) other
      left-alike files = closed-both s.control.relseg root other ended.world.files y.files (left-by s ended.world) files
