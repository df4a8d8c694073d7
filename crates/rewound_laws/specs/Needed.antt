-- Two clusters of which one is to follow the other by a rewind: PostgreSQL 16, src/bin/pg_rewind/pg_rewind.c, main and perform_rewind.
-- Own: "The plan of a rewind".
use Rattle.std.specs.Prelude.{◌≡◌, ℤ, List, None, Some, Ok}
use Rattle.cluster_tree.specs.Contents.{Contents}
use Rattle.cluster_tree.specs.PathValue.{PathValue}
use Rattle.wal_base.specs.SizeOfBytes.{size_of_bytes}
use Rattle.wal_base.specs.declared.seg_size.SegSize.{SegSize}
use Rattle.control_file.specs.declared.control.Control.{Control}
use Rattle.clusters.specs.Marks.{unfinished}
use Rattle.clusters.specs.RootControl.{control_at}
use Rattle.file_walk.specs.Pairs.{pairs_of}
use Rattle.file_walk.specs.Walk.{walk_of}
use Rattle.file_walk.specs.declared.entry.Entry.{Entry}
use Rattle.rewind_plan.specs.Checks.{first_difference}
use Rattle.rewind_plan.specs.Room.{first_lacking}
use Rattle.rewind_survey.specs.Survey.{Parted, Parting, survey_of}
use Rattle.rewind_core.specs.Planned.{Needing, Needs, aim_of, planned_of}

-- what each point of a rewind found, none of which refused
pub record IsNeeded (c : Contents) (target source : PathValue) (now : ℤ) (n : Needing) : Type 0 where
  -- the two have parted, no run is unfinished in either, and their control files are read; relations are cut at one size
  pub part : Parting
  pub surveyed : survey_of c target source ≡ Ok (Parted part)
  pub target_finished : unfinished c target ≡ None
  pub source_finished : unfinished c source ≡ None
  pub t : Control
  pub target_read : control_at c target ≡ Ok t
  pub s : Control
  pub source_read : control_at c source ≡ Ok s
  pub one_size : s.relseg ≡ t.relseg
  -- what the rewind is for
  pub size : SegSize
  pub sized : size_of_bytes t.walSegSize ≡ Some size
  pub aimed : n.aim ≡ aim_of target source part t s size now
  -- both were walked, each path has room where it is made, and no kinds differ
  pub target_entries : List Entry
  pub target_walked : walk_of c target ≡ Ok target_entries
  pub source_entries : List Entry
  pub source_walked : walk_of c source ≡ Ok source_entries
  pub paired : n.pairs ≡ pairs_of target_entries source_entries
  pub lacking : first_lacking n.aim.between n.pairs ≡ None
  pub differing : first_difference n.pairs ≡ None

abbrev pub PlannedIsNeeded : Type 0
PlannedIsNeeded = (c : Contents) (target source : PathValue) (now : ℤ) (n : Needing) → planned_of c target source now ≡ Ok (Needs n) → IsNeeded c target source now n
