-- What a rewind of two clusters has to do, or why it is refused: PostgreSQL 16, src/bin/pg_rewind/pg_rewind.c, main and perform_rewind.
-- Own: "The plan of a rewind".
use Rattle.std.specs.Prelude.{ℤ, List, [], ◌∷◌, Option, None, Some, Result, Ok, Err, option_map}
use Rattle.cluster_tree.specs.Causes.{first_of, given, unless}
use Rattle.cluster_tree.specs.Contents.{Contents}
use Rattle.cluster_tree.specs.PathValue.{PathValue}
use Rattle.wal_base.specs.SizeOfBytes.{size_of_bytes}
use Rattle.wal_base.specs.declared.seg_size.SegSize.{SegSize}
use Rattle.control_file.specs.declared.control.Control.{Control}
use Rattle.control_file.specs.declared.field.Field.TheVariants as field
use Rattle.timeline_history.specs.declared.ancestor.Divergence.{Divergence}
use Rattle.clusters.specs.RootControl.{control_at}
use Rattle.touched_blocks.specs.Touched.{touches}
use Rattle.backup_label.specs.declared.label.Label.{Label}
use Rattle.file_walk.specs.Pairs.{pairs_of}
use Rattle.file_walk.specs.Walk.{walk_of}
use Rattle.file_walk.specs.declared.pair.Pair.{Pair}
use Rattle.rewound_tree.specs.RewoundControl.{rewound_control}
use Rattle.rewind_plan.specs.Checks.{first_difference}
use Rattle.rewind_plan.specs.Planned.{Between}
use Rattle.rewind_plan.specs.Room.{first_lacking}
use Rattle.rewind_survey.specs.Faults.{told_by}
use Rattle.rewind_survey.specs.Survey.{Parting, Survey, survey_of}
use Rattle.rewind_survey.specs.Survey as survey
use Rattle.clusters.specs.declared.fault.ClusterFault.TheVariants as cluster
use Rattle.rewind_survey.specs.declared.fault.RewindFault.{RewindFault}
use Rattle.rewind_survey.specs.declared.fault.RewindFault.TheVariants as fault
use Rattle.rewind_survey.specs.declared.outcome.Told.{Told}
use Rattle.rewind_core.specs.Faults.{seen}

-- what a rewind is for: what is told of it, the two clusters, and the control file and the label that it leaves
pub record Aim : Type 0 where
  pub told : Told
  pub between : Between
  pub control : Control
  pub label : Label

-- a rewind that is needed, with all paths of both clusters side by side
pub record Needing : Type 0 where
  pub aim : Aim
  pub pairs : List Pair

-- what is to be done
pub data Meant : Type 0 where
  OneTimeline : Meant
  AtFork : Divergence → Meant
  Needs : Needing → Meant

-- the blocks that the target's log touched are wanted of the source
abbrev pub between_of : (target source : PathValue) → Control → Parting → Between
between_of target source t part = record { target = target; source = source; per_file = t.relseg; wanted = touches part.records }

-- replay starts at the common checkpoint's redo
abbrev pub label_of : Parting → SegSize → ℤ → Label
label_of part size now = record {
  start = record { 0 = part.redo };
  tli = part.told.tli;
  size = size;
  checkpoint = part.told.checkpoint;
  time = now;
}

abbrev pub aim_of : (target source : PathValue) → Parting → (t s : Control) → SegSize → ℤ → Aim
aim_of target source part t s size now =
    record { told = part.told; between = between_of target source t part; control = rewound_control s now; label = label_of part size now }

-- why the paths are refused: one without room where it is made, and then kinds that differ
abbrev pub pairs_refusal : Between → List Pair → Option RewindFault
pairs_refusal w pairs = first_of (option_map fault.TooDeep (first_lacking w pairs) ∷ option_map fault.KindsDiffer (first_difference pairs) ∷ [])

abbrev pub from_pairs : Aim → List Pair → Result Meant RewindFault
from_pairs aim pairs = unless (pairs_refusal aim.between pairs) (Ok (Needs (record { aim = aim; pairs = pairs })))

-- before that, the walks below the target and below the source
unfoldable pub from_walks : Contents → Aim → Result Meant RewindFault
from_walks c aim =
    given (seen (walk_of c aim.between.target)) (λ ts.
    given (seen (walk_of c aim.between.source)) (λ ss.
    from_pairs aim (pairs_of ts ss)))

-- a control file that was read has the size of a segment
abbrev pub from_size : Contents → (target source : PathValue) → Parting → (t s : Control) → Option SegSize → ℤ → Result Meant RewindFault
from_size c target source part t s (Some size) now = from_walks c (aim_of target source part t s size now)
from_size c target source part t s None now = Err (fault.Cluster (cluster.Shape target field.WalSegSize t.walSegSize))

-- before that, what both control files say
unfoldable pub from_parting : Contents → (target source : PathValue) → ℤ → Parting → Result Meant RewindFault
from_parting c target source now part =
    given (told_by (control_at c target)) (λ t.
    given (told_by (control_at c source)) (λ s.
    from_size c target source part t s (size_of_bytes t.walSegSize) now))

abbrev pub from_survey : Contents → (target source : PathValue) → ℤ → Survey → Result Meant RewindFault
from_survey c target source now survey.OneTimeline = Ok OneTimeline
from_survey c target source now (survey.AtFork fork) = Ok (AtFork fork)
from_survey c target source now (survey.Parted part) = from_parting c target source now part

-- The first point that refuses decides: first of all those of a survey.
unfoldable pub planned_of : Contents → (target source : PathValue) → ℤ → Result Meant RewindFault
planned_of c target source now = given (survey_of c target source) (from_survey c target source now)
