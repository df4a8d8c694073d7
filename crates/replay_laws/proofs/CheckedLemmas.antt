-- The log of a cluster that was checked before a replay is one of records that replay takes.
use Rattle.std.proofs.Common.{◌≡◌, ℕ, List, [], ◌∷◌, Option, None, Some, Result, Ok, refl, ap, sym, subst, arith}
use Rattle.rmgr_hooks.specs.Custom.{Extension}
use Rattle.std.specs.Option.{option_map}
use Rattle.backup_label.specs.declared.reading.LabelPlaces.{LabelPlaces}
use Rattle.cluster_tree.specs.Causes.{first_of, given}
use Rattle.cluster_tree.specs.Contents.{Contents}
use Rattle.cluster_tree.specs.PathValue.{PathValue}
use Rattle.clusters.specs.Marks.{unfinished}
use Rattle.clusters.specs.RootControl.{control_at}
use Rattle.clusters.specs.RootHistory.{history_at}
use Rattle.clusters.specs.RootLog.{log_at}
use Rattle.clusters.specs.Roots.{wal_folder}
use Rattle.control_file.specs.Reading.{timeline_of}
use Rattle.control_file.specs.declared.control.Control.{Control}
use Rattle.replay_profile.specs.Profile.{first_outside}
use Rattle.replay_profile.specs.declared.fault.ProfileFault.{ProfileFault}
use Rattle.replay_start.specs.Checked.{Start, checksums_on, from_control, from_label, in_log, label_at, log_with, no_hints, start_of}
use Rattle.replay_start.specs.Faults.{of_profile, told_by}
use Rattle.replay_start.specs.Scanned.{log_refusal}
use Rattle.replay_start.specs.declared.fault.ReplayFault.{ReplayFault}
use Rattle.replay_start.specs.declared.fault.ReplayFault.TheVariants as fault
use Rattle.wal_base.specs.Segment.{bytes_of}
use Rattle.wal_base.specs.SizeOfBytes.{size_of_bytes}
use Rattle.wal_base.specs.declared.seg_size.SegSize.{SegSize}
use Rattle.wal_base.specs.declared.spans.Span.{Span}
use Rattle.wal_pages.specs.declared.log_path.LogPath.{LogPath}
use Rattle.wal_records.specs.Further.{pages_of}
use Rattle.wal_records.specs.Log.{log_of}
use Rattle.wal_records.specs.Place.{place_at}
use Rattle.wal_records.specs.Reading.{LogRecord}
use Rattle.wal_records.proofs.LogLemmas.{log_in_order}
use Rattle.wal_records.proofs.PlaceLemmas.{place_at_up}
use Rattle.replay_laws.specs.Log.{AreTaken, HoldsBytes}
use Rattle.replay_laws.proofs.ByteLemmas.{log-bytes, pages-small}
use Rattle.replay_laws.proofs.WorldLemmas.{given-ok, not-refused}

first_free : (o : Option ReplayFault) (rest : List (Option ReplayFault)) → first_of (o ∷ rest) ≡ None → o ≡ None
unfolding first_of
first_free None rest e = refl
first_free (Some fault) rest e = absurd cc

none_mapped : (o : Option ProfileFault) → option_map of_profile o ≡ None → o ≡ None
none_mapped None e = refl
none_mapped (Some fault) e = absurd cc

none_outside : (custom : Option Extension) (root : PathValue) (control : Control) (label : LabelPlaces) (records : List LogRecord) → log_refusal custom root control label records ≡ None → first_outside custom records ≡ None
unfolding log_refusal
none_outside custom root control label records e = none_mapped (first_outside custom records) (first_free (option_map of_profile (first_outside custom records)) _ e)

abbrev OkStart : Start → Result Start ReplayFault
OkStart start = Ok start

one_start : (a b : Start) → OkStart a ≡ OkStart b → a ≡ b
one_start a b e = cc

-- a log lies in the folder of its cluster's log
log_lies : (root : PathValue) (system : Option ℕ) (spans : List Span) (size : Option SegSize) (log : LogPath) → option_map (log_at root system spans) size ≡ Some log → log.folder ≡ wal_folder root
log_lies root system spans None log e = absurd cc
log_lies root system spans (Some size) log e = let same : log_at root system spans size ≡ log = cc in ap (λ (l : LogPath). l.folder) (sym same)

module _ (custom : Option Extension) (c : Contents) (root : PathValue) (start : Start) (holds : HoldsBytes c root) where
  abbrev Taken : Start → Type 0
  Taken s = AreTaken custom s.label.start.0 s.records

  log_taken : (control : Control) (label : LabelPlaces) (o : Option LogPath) → ((log : LogPath) → o ≡ Some log → log.folder ≡ wal_folder root) → in_log custom c root control label o ≡ Ok start → Taken start
  log_taken control label None lies e = absurd cc
  log_taken control label (Some log) lies e =
      let at = label.start.0 in
      let size = bytes_of log.size in
      let records : List LogRecord = (log_of (pages_of log c) size at).records in
      let two = not-refused (log_refusal custom root control label records) _ start e in
      subst Taken (one_start (record { control = control; label = label; log = log; records = records }) start two.1) (record {
        judged = none_outside custom root control label records two.0;
        bytes = log-bytes (pages_of log c) (pages-small log c root (lies log refl) holds) size None (place_at size at);
        order = log_in_order (pages_of log c) size at (place_at size at) None (omega (arith, log.size.is_size.least)) (place_at_up size at);
      })

  label_taken : (control : Control) (label : LabelPlaces) → from_label custom c root control label ≡ Ok start → Taken start
  unfolding from_label
  label_taken control label e =
      let spans = given-ok (told_by (history_at c root (timeline_of control))) (λ spans. in_log custom c root control label (log_with root control spans)) start e in
      log_taken control label (log_with root control spans.0) (log_lies root (Some control.sysid) spans.0 (size_of_bytes control.walSegSize)) spans.2

  control_taken : (control : Control) → from_control custom c root control ≡ Ok start → Taken start
  unfolding from_control
  control_taken control e =
      let read = not-refused (first_of (checksums_on root control ∷ no_hints root control ∷ [])) (given (label_at c root) (from_label custom c root control)) start e in
      let label = given-ok (label_at c root) (from_label custom c root control) start read.1 in
      label_taken control label.0 label.2

  pub start-taken : start_of custom c root ≡ Ok start → Taken start
  unfolding start_of
  start-taken e =
      let read = not-refused (option_map fault.Cluster (unfinished c root)) (given (told_by (control_at c root)) (from_control custom c root)) start e in
      let control = given-ok (told_by (control_at c root)) (from_control custom c root) start read.1 in
      control_taken control.0 control.2
