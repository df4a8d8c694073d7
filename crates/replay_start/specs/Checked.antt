-- What a replay begins from: PostgreSQL 16, src/backend/access/transam/xlogrecovery.c, InitWalRecovery and read_backup_label. Own: "The order of a replay's
-- refusals".
use Rattle.std.specs.Prelude.{ℕ, ◌≡◌, ◌⊎◌, ◌==◌, if◌then◌else◌, List, [], ◌∷◌, codes, Option, None, Some, Result, Ok, Err, MatchResult, option_map}
use Rattle.cluster_tree.specs.PathValue.{PathValue, below}
use Rattle.cluster_tree.specs.Contents.{Contents, entry_at}
use Rattle.cluster_tree.specs.Causes.{first_of, unless, given}
use Rattle.cluster_tree.specs.Tree.{file_of}
use Rattle.cluster_tree.specs.declared.tree.TreeFault.{TreeFault}
use Rattle.backup_label.specs.Reading.{label_of}
use Rattle.backup_label.specs.declared.fault.LabelFault.{LabelFault}
use Rattle.backup_label.specs.declared.fault.LabelFault.TheVariants as label
use Rattle.backup_label.specs.declared.reading.LabelPlaces.{LabelPlaces}
use Rattle.clusters.specs.Marks.{unfinished}
use Rattle.clusters.specs.RootControl.{control_at}
use Rattle.clusters.specs.RootHistory.{history_at}
use Rattle.clusters.specs.RootLog.{log_at}
use Rattle.clusters.specs.declared.fault.ClusterFault.TheVariants as cluster
use Rattle.control_file.specs.Reading.{timeline_of}
use Rattle.control_file.specs.declared.control.Control.{Control}
use Rattle.control_file.specs.declared.field.Field.TheVariants as field
use Rattle.wal_base.specs.Segment.{bytes_of}
use Rattle.wal_base.specs.SizeOfBytes.{size_of_bytes}
use Rattle.wal_base.specs.declared.spans.Span.{Span}
use Rattle.wal_pages.specs.declared.log_path.LogPath.{LogPath}
use Rattle.wal_records.specs.Further.{pages_of}
use Rattle.wal_records.specs.Log.{end_after, log_of}
use Rattle.wal_records.specs.Reading.{LogRecord}
use Rattle.replay_start.specs.Faults.{IsFree, told_by}
use Rattle.replay_start.specs.Scanned.{log_refusal}
use Rattle.replay_start.specs.declared.checked.Checked.{Checked}
use Rattle.replay_start.specs.declared.fault.ReplayFault.{ReplayFault}
use Rattle.replay_start.specs.declared.fault.ReplayFault.TheVariants as fault
use Rattle.rmgr_hooks.specs.Custom.{Extension}

-- a cluster that passed every check: what its control file and its label say, where its log lies, and the log's records
pub record Start : Type 0 where
  pub control : Control
  pub label : LabelPlaces
  pub log : LogPath
  pub records : List LogRecord

-- pages have checksums, which a replay doesn't write
unfoldable pub checksums_on : PathValue → Control → Option ReplayFault
checksums_on root control = if control.checksumVersion == 0 then None else Some (fault.ChecksumsOn root)

-- hints were not logged
unfoldable pub no_hints : PathValue → Control → Option ReplayFault
no_hints root control = if control.walLogHints == 0 then Some (fault.NoHints root) else None

-- the label's refusals, by the number of the line
abbrev pub with_label : PathValue → Result LabelPlaces LabelFault → Result LabelPlaces ReplayFault
with_label root (Ok places) = Ok places
with_label root (Err label.Start) = Err (fault.BadLabel root 1)
with_label root (Err label.Checkpoint) = Err (fault.BadLabel root 2)

-- what a label of these bytes says, where there is one
abbrev pub label_in : PathValue → Result (List ℕ) TreeFault → Result LabelPlaces ReplayFault
label_in root (Ok bytes) = with_label root (label_of bytes)
label_in root (Err _) = Err (fault.NoLabel root)

-- what the label of a root says
unfoldable pub label_at : Contents → PathValue → Result LabelPlaces ReplayFault
label_at c root = label_in root (file_of (entry_at c (below root (codes "backup_label" ∷ []))))

-- where the log lies, by the history and the size of its segments; the control file's system wrote it
abbrev pub log_with : PathValue → Control → List Span → Option LogPath
log_with root control spans = option_map (log_at root (Some control.sysid) spans) (size_of_bytes control.walSegSize)

-- the whole log passes, from the label's start on
abbrev pub with_records : Option Extension → PathValue → Control → LabelPlaces → LogPath → List LogRecord → Result Start ReplayFault
with_records custom root control label log records =
    unless (log_refusal custom root control label records) (Ok (record { control = control; label = label; log = log; records = records }))

-- a control file that was read has the size of a segment
abbrev pub in_log : Option Extension → Contents → PathValue → Control → LabelPlaces → Option LogPath → Result Start ReplayFault
in_log custom c root control label (Some log) = with_records custom root control label log (log_of (pages_of log c) (bytes_of log.size) label.start.0).records
in_log custom c root control label None = Err (fault.Cluster (cluster.Shape root field.WalSegSize control.walSegSize))

-- before that, the history of the control file's timeline
unfoldable pub from_label : Option Extension → Contents → PathValue → Control → LabelPlaces → Result Start ReplayFault
from_label custom c root control label =
    given (told_by (history_at c root (timeline_of control))) (λ spans. in_log custom c root control label (log_with root control spans))

-- before that, what the control file must meet, and the label
unfoldable pub from_control : Option Extension → Contents → PathValue → Control → Result Start ReplayFault
from_control custom c root control =
    unless (first_of (checksums_on root control ∷ no_hints root control ∷ [])) (given (label_at c root) (from_label custom c root control))

-- The first point that refuses decides: first of all the marks of unfinished runs, and the control file.
unfoldable pub start_of : Option Extension → Contents → PathValue → Result Start ReplayFault
start_of custom c root = unless (option_map fault.Cluster (unfinished c root)) (given (told_by (control_at c root)) (from_control custom c root))

-- what was checked is this start
pub record IsStart (start : Start) (v : Checked) : Type 0 where
  pub control : v.control ≡ start.control
  pub label : v.label ≡ start.label
  pub log : v.cursor.log ≡ start.log
  pub end : v.end.0 ≡ end_after start.label.start.0 start.records

-- the answer is the one that is meant, or a failed read, or want of memory
abbrev pub Checks : Result Start ReplayFault → Result Checked ReplayFault → Type 0
Checks meant result = MatchResult result (λ v. (start : Start) × (meant ≡ Ok start) × IsStart start v) (λ e. IsFree e ⊎ (meant ≡ Err e))
