-- What is checked before a replay hangs on the marks, the control file, the label and the log alone.
use Rattle.std.proofs.Common.{◌≡◌, ℕ, ◌==◌, cond, List, [], ◌∷◌, Option, None, Some, Result, Ok, Err, is_some, refl, ap, ◌∙◌}
use Rattle.std.specs.Prelude.{if◌then◌else◌, option_map}
use Rattle.backup_label.specs.declared.reading.LabelPlaces.{LabelPlaces}
use Rattle.cluster_tree.specs.Causes.{first_of, given, unless}
use Rattle.cluster_tree.specs.Contents.{Contents, entry_at}
use Rattle.cluster_tree.specs.Marks.{is_there, marks_of}
use Rattle.cluster_tree.specs.PathValue.{PathValue, Holds, below}
use Rattle.cluster_tree.specs.Tree.{file_of}
use Rattle.cluster_tree.proofs.RootLemmas.{holds-below}
use Rattle.clusters.specs.Marks.{unfinished, with_mark}
use Rattle.clusters.specs.RootControl.{control_at, control_in}
use Rattle.clusters.specs.RootHistory.{history_at, history_in}
use Rattle.clusters.specs.RootLog.{log_at}
use Rattle.clusters.specs.Roots.{history_name, wal_folder}
use Rattle.clusters.specs.declared.fault.ClusterFault.{ClusterFault}
use Rattle.control_file.specs.Reading.{timeline_of}
use Rattle.control_file.specs.declared.control.Control.{Control}
use Rattle.replay_core.specs.Replayed.{control_path, label_path}
use Rattle.replay_laws.proofs.WorldLemmas.{not-refused}
use Rattle.replay_start.specs.Checked.{Start, checksums_on, from_control, from_label, in_log, label_at, label_in, log_with, no_hints, start_of, with_records}
use Rattle.replay_start.specs.Faults.{told_by}
use Rattle.replay_start.specs.declared.fault.ReplayFault.TheVariants as fault
use Rattle.rmgr_hooks.specs.Custom.{Extension}
use Rattle.wal_base.specs.Segment.{bytes_of}
use Rattle.wal_base.specs.SizeOfBytes.{size_of_bytes}
use Rattle.wal_base.specs.Spans.{open_span}
use Rattle.wal_base.specs.declared.seg_size.SegSize.{SegSize}
use Rattle.wal_base.specs.declared.spans.Span.{Span}
use Rattle.wal_pages.specs.Folder.{file_in}
use Rattle.wal_records.specs.Further.{Pages, pages_of}
use Rattle.wal_records.specs.Log.{log_of}
use Rattle.wal_records.proofs.FilesLemmas.{same_log}

-- the marks have the same entries in both
pub record MarksSame (root : PathValue) (c d : Contents) : Type 0 where
  pub rewind : entry_at c (marks_of root).rewind ≡ entry_at d (marks_of root).rewind
  pub replay : entry_at c (marks_of root).replay ≡ entry_at d (marks_of root).replay
  pub reset : entry_at c (marks_of root).reset ≡ entry_at d (marks_of root).reset

-- and so do these
pub record ReadsSame (root : PathValue) (c d : Contents) : Type 0 where
  pub marks : MarksSame root c d
  pub control : entry_at c (control_path root) ≡ entry_at d (control_path root)
  pub label : entry_at c (label_path root) ≡ entry_at d (label_path root)
  pub log : (path : PathValue) → Holds (wal_folder root) path → entry_at c path ≡ entry_at d path

both-given : {A B E : Type 0} (f g : A → Result B E) → ((a : A) → f a ≡ g a) → (r : Result A E) → given r f ≡ given r g
both-given f g both (Ok a) = both a
both-given f g both (Err e) = refl

then-same : {A B E : Type 0} (r q : Result A E) (f g : A → Result B E) → r ≡ q → ((a : A) → f a ≡ g a) → given r f ≡ given q g
then-same r q f g same both = ap (λ x. given x f) same ∙ both-given f g both q

pub unfinished-same : (root : PathValue) (c d : Contents) → MarksSame root c d → unfinished c root ≡ unfinished d root
unfolding unfinished
unfinished-same root c d same =
    ap (λ o. with_mark (marks_of root) (cond (is_some o) (Some 0) (cond (is_there c (marks_of root).replay) (Some 1) (cond (is_there c (marks_of root).reset) (Some 2) None)))) same.rewind
    ∙ ap (λ o. with_mark (marks_of root) (cond (is_there d (marks_of root).rewind) (Some 0) (cond (is_some o) (Some 1) (cond (is_there c (marks_of root).reset) (Some 2) None)))) same.replay
    ∙ ap (λ o. with_mark (marks_of root) (cond (is_there d (marks_of root).rewind) (Some 0) (cond (is_there d (marks_of root).replay) (Some 1) (cond (is_some o) (Some 2) None)))) same.reset

mapped_none : (o : Option ClusterFault) → option_map fault.Cluster o ≡ None → o ≡ None
mapped_none None h = refl
mapped_none (Some e) h = absurd cc

-- where every check passes no mark stands
pub none-unfinished : (custom : Option Extension) (root : PathValue) (c : Contents) (s : Start) → start_of custom c root ≡ Ok s → unfinished c root ≡ None
unfolding start_of
none-unfinished custom root c s h =
    mapped_none (unfinished c root) (not-refused (option_map fault.Cluster (unfinished c root)) (given (told_by (control_at c root)) (from_control custom c root)) s h).0

module _ (custom : Option Extension) (root : PathValue) (c d : Contents) (same : ReadsSame root c d) where
  control-same : control_at c root ≡ control_at d root
  unfolding control_at
  control-same = ap (λ o. control_in root (file_of o)) same.control

  label-same : label_at c root ≡ label_at d root
  unfolding label_at
  label-same = ap (λ o. label_in root (file_of o)) same.label

  history-same : (tli : ℕ) → history_at c root tli ≡ history_at d root tli
  unfolding history_at
  history-same tli = ap (λ o. if tli == 1 then Ok (open_span 1 record { 0 = 0 } ∷ []) else history_in root tli (file_of o)) (same.log (below (wal_folder root) (history_name tli ∷ [])) (holds-below (wal_folder root) (history_name tli ∷ [])))

  pages-same : (system : Option ℕ) (spans : List Span) (size : SegSize) → pages_of (log_at root system spans size) c ≡ pages_of (log_at root system spans size) d
  pages-same system spans size =
      same_log (log_at root system spans size) c d (λ number. ap file_in (same.log (below (wal_folder root) _) (holds-below (wal_folder root) _)))

  log-same : (v : Control) (places : LabelPlaces) (system : Option ℕ) (spans : List Span) (size : Option SegSize)
      → in_log custom c root v places (option_map (log_at root system spans) size) ≡ in_log custom d root v places (option_map (log_at root system spans) size)
  log-same v places system spans None = refl
  log-same v places system spans (Some size) =
      ap (λ (pages : Pages). with_records custom root v places (log_at root system spans size) (log_of pages (bytes_of size) places.start.0).records) (pages-same system spans size)

  from-label : (v : Control) (places : LabelPlaces) → from_label custom c root v places ≡ from_label custom d root v places
  unfolding from_label
  from-label v places =
      then-same (told_by (history_at c root (timeline_of v))) (told_by (history_at d root (timeline_of v)))
      (λ spans. in_log custom c root v places (log_with root v spans)) (λ spans. in_log custom d root v places (log_with root v spans))
      (ap told_by (history-same (timeline_of v))) (λ spans. log-same v places (Some v.sysid) spans (size_of_bytes v.walSegSize))

  from-control : (v : Control) → from_control custom c root v ≡ from_control custom d root v
  unfolding from_control
  from-control v =
      ap (unless (first_of (checksums_on root v ∷ no_hints root v ∷ [])))
      (then-same (label_at c root) (label_at d root) (from_label custom c root v) (from_label custom d root v) label-same (from-label v))

  pub start-same : start_of custom c root ≡ start_of custom d root
  unfolding start_of
  start-same =
      ap (λ o. unless (option_map fault.Cluster o) (given (told_by (control_at c root)) (from_control custom c root))) (unfinished-same root c d same.marks)
      ∙ ap (unless (option_map fault.Cluster (unfinished d root)))
      (then-same (told_by (control_at c root)) (told_by (control_at d root)) (from_control custom c root) (from_control custom d root) (ap told_by control-same) from-control)
