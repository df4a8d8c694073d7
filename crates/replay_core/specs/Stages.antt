-- What the steps of a replay begin from.
use Rattle.std.specs.Prelude.{Option, ◌≡◌, true, List, None, Ok}
use Rattle.cluster_tree.specs.Contents.{Contents, entry_at, is_file}
use Rattle.cluster_tree.specs.PathValue.{PathValue}
use Rattle.clusters.specs.Roots.{wal_folder}
use Rattle.replay_profile.specs.Profile.{first_outside}
use Rattle.wal_base.specs.Segment.{bytes_of}
use Rattle.wal_records.specs.Cursor.{Knows}
use Rattle.wal_records.specs.Further.{pages_of}
use Rattle.wal_records.specs.Log.{end_after, log_of}
use Rattle.wal_records.specs.Reading.{LogRecord}
use Rattle.replay_start.specs.Checked.{Start, start_of}
use Rattle.replay_start.specs.declared.checked.Checked.{Checked}
use Rattle.replay_core.specs.Replayed.{control_path, label_path, mark_of}
use Rattle.replay_core.specs.declared.paths.Paths.{Paths}
use Rattle.rmgr_hooks.specs.Custom.{Extension}

-- the paths that a replay needs of its own are those below this root
pub record ArePaths (root : PathValue) (paths : Paths) : Type 0 where
  pub mark : paths.mark ≡ mark_of root
  pub control : paths.control ≡ control_path root
  pub label : paths.label ≡ label_path root
  pub log : paths.log ≡ wal_folder root

-- the files that are changed behind the last record stand there
pub record EndsStand (c : Contents) (root : PathValue) : Type 0 where
  pub control : is_file (entry_at c (control_path root)) ≡ true
  pub label : is_file (entry_at c (label_path root)) ≡ true

-- and the mark too
pub record Stand (c : Contents) (root : PathValue) : Type 0 where
  pub mark : is_file (entry_at c (mark_of root)) ≡ true
  pub ends : EndsStand c root

-- the records of a log that was checked, from its label's start on
abbrev pub records_in : Checked → Contents → List LogRecord
records_in checked c = (log_of (pages_of checked.cursor.log c) (bytes_of checked.cursor.log.size) checked.label.start.0).records

-- and all that was checked
abbrev pub start_in : Checked → Contents → Start
start_in checked c = record { control = checked.control; label = checked.label; log = checked.cursor.log; records = records_in checked c }

-- these contents still have the log that was checked
pub record HasLog (custom : Option Extension) (checked : Checked) (c : Contents) : Type 0 where
  pub knows : Knows checked.cursor c
  pub taken : first_outside custom (records_in checked c) ≡ None
  pub end : checked.end.0 ≡ end_after checked.label.start.0 (records_in checked c)

-- a cluster passed every check, and this was checked
pub record IsChecked (custom : Option Extension) (c : Contents) (root : PathValue) (checked : Checked) : Type 0 where
  pub start : start_of custom c root ≡ Ok (start_in checked c)
  pub knows : Knows checked.cursor c
  pub end : checked.end.0 ≡ end_after checked.label.start.0 (records_in checked c)
