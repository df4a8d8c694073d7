-- The control file of a cluster that passes every check says that a file has a block or more.
use Rattle.std.proofs.Common.{◌≡◌, ℕ, ◌<◌, ◌≤◌, Bool, true, false, ◌&&◌, nat_le, List, [], ◌∷◌, Option, None, Some, Result, Ok, Err, refl, sym, ap, subst, true≢false, arith}
use Rattle.std.proofs.lemmas.Bool.Decides.{nat_tests}
use Rattle.std.specs.Option.{option_map}
use Rattle.backup_label.specs.declared.reading.LabelPlaces.{LabelPlaces}
use Rattle.cluster_tree.specs.Causes.{first_of, given}
use Rattle.cluster_tree.specs.Contents.{Contents, entry_at}
use Rattle.cluster_tree.specs.PathValue.{PathValue}
use Rattle.cluster_tree.specs.Tree.{file_of}
use Rattle.cluster_tree.specs.declared.tree.TreeFault.{TreeFault}
use Rattle.clusters.specs.Marks.{unfinished}
use Rattle.clusters.specs.RootControl.{at_root, control_at, control_in}
use Rattle.clusters.specs.RootHistory.{history_at}
use Rattle.clusters.specs.declared.fault.ClusterFault.{ClusterFault}
use Rattle.control_file.specs.Admission.{control_of}
use Rattle.control_file.specs.Reading.{timeline_of}
use Rattle.control_file.specs.Rows.{build_rows, checkpoint_rows, head_rows, recovery_rows, rows_of, setting_rows}
use Rattle.control_file.specs.declared.control.Control.{Control}
use Rattle.control_file.specs.declared.fault.ControlFault.{ControlFault}
use Rattle.control_file.specs.declared.fault.ControlFault.TheVariants as control
use Rattle.control_file.proofs.ReadingLemmas.{ok_is}
use Rattle.replay_core.specs.Replayed.{control_path}
use Rattle.replay_laws.proofs.WorldLemmas.{given-ok, not-refused}
use Rattle.replay_start.specs.Checked.{Start, checksums_on, from_control, from_label, in_log, label_at, log_with, no_hints, start_of}
use Rattle.replay_start.specs.Faults.{told_by}
use Rattle.replay_start.specs.Scanned.{log_refusal}
use Rattle.replay_start.specs.declared.fault.ReplayFault.{ReplayFault}
use Rattle.replay_start.specs.declared.fault.ReplayFault.TheVariants as fault
use Rattle.rmgr_hooks.specs.Custom.{Extension}
use Rattle.wal_base.specs.Segment.{bytes_of}
use Rattle.wal_pages.specs.declared.log_path.LogPath.{LogPath}
use Rattle.wal_records.specs.Further.{pages_of}
use Rattle.wal_records.specs.Log.{log_of}
use Rattle.wal_records.specs.Reading.{LogRecord}

-- ---- of a control file that was read

first_part : (a b : Bool) → (a && b) ≡ true → a ≡ true
first_part true b e = refl
first_part false b e = absurd (true≢false (sym e))

le_of : (n m : ℕ) → nat_le n m ≡ true → n ≤ m
le_of n m h = grind (arith, nat_tests, h)

module _ (bytes : List ℕ) (v : Control) (is : control_of bytes ≡ Ok v) where
  between : (nat_le 1 v.relseg && nat_le v.relseg 131072) ≡ true
  unfolding rows_of head_rows checkpoint_rows recovery_rows setting_rows build_rows
  between = (ok_is bytes v is).shape.1.1.1.1.1.1.1.1.1.1.1.1.1.1.1.1.1.1.1.1.1.1.1.1.1.1.1.1.1.1.1.1.1.1.1.1.1.1.1.0

  some_blocks : 0 < v.relseg
  some_blocks = omega (arith, le_of 1 v.relseg (first_part (nat_le 1 v.relseg) (nat_le v.relseg 131072) between))

some_at : (root : PathValue) (bytes : List ℕ) (r : Result Control ControlFault) (v : Control) → control_of bytes ≡ r → at_root root r ≡ Ok v → 0 < v.relseg
some_at root bytes (Ok w) v is h = let same : w ≡ v = cc in subst (λ (u : Control). 0 < u.relseg) same (some_blocks bytes w is)
some_at root bytes (Err (control.Size n)) v is h = absurd cc
some_at root bytes (Err (control.Crc stored computed)) v is h = absurd cc
some_at root bytes (Err (control.Version n)) v is h = absurd cc
some_at root bytes (Err (control.Catalog n)) v is h = absurd cc
some_at root bytes (Err (control.Shape field n)) v is h = absurd cc

some_in : (root : PathValue) (r : Result (List ℕ) TreeFault) (v : Control) → control_in root r ≡ Ok v → 0 < v.relseg
some_in root (Ok bytes) v h = some_at root bytes (control_of bytes) v refl h
some_in root (Err e) v h = absurd cc

told_some : (c : Contents) (root : PathValue) (r : Result Control ClusterFault) (v : Control) → control_at c root ≡ r → told_by r ≡ Ok v → 0 < v.relseg
unfolding control_at
told_some c root (Ok w) v is h = let same : w ≡ v = cc in subst (λ (u : Control). 0 < u.relseg) same (some_in root (file_of (entry_at c (control_path root))) w is)
told_some c root (Err e) v is h = absurd cc

-- ---- a start has that control file

abbrev OkStart : Start → Result Start ReplayFault
OkStart s = Ok s

one_start : (a b : Start) → OkStart a ≡ OkStart b → a ≡ b
one_start a b e = cc

module _ (custom : Option Extension) (c : Contents) (root : PathValue) (s : Start) where
  in_log_control : (v : Control) (label : LabelPlaces) (o : Option LogPath) → in_log custom c root v label o ≡ Ok s → v ≡ s.control
  in_log_control v label None h = absurd cc
  in_log_control v label (Some log) h =
      let records : List LogRecord = (log_of (pages_of log c) (bytes_of log.size) label.start.0).records in
      let two = not-refused (log_refusal custom root v label records) (OkStart (record { control = v; label = label; log = log; records = records })) s h in
      ap (λ (x : Start). x.control) (one_start (record { control = v; label = label; log = log; records = records }) s two.1)

  label_control : (v : Control) (label : LabelPlaces) → from_label custom c root v label ≡ Ok s → v ≡ s.control
  unfolding from_label
  label_control v label h =
      let spans = given-ok (told_by (history_at c root (timeline_of v))) (λ spans. in_log custom c root v label (log_with root v spans)) s h in
      in_log_control v label (log_with root v spans.0) spans.2

  from_control_is : (v : Control) → from_control custom c root v ≡ Ok s → v ≡ s.control
  unfolding from_control
  from_control_is v h =
      let read = not-refused (first_of (checksums_on root v ∷ no_hints root v ∷ [])) (given (label_at c root) (from_label custom c root v)) s h in
      let label = given-ok (label_at c root) (from_label custom c root v) s read.1 in
      label_control v label.0 label.2

  pub start-blocks : start_of custom c root ≡ Ok s → 0 < s.control.relseg
  unfolding start_of
  start-blocks h =
      let read = not-refused (option_map fault.Cluster (unfinished c root)) (given (told_by (control_at c root)) (from_control custom c root)) s h in
      let v = given-ok (told_by (control_at c root)) (from_control custom c root) s read.1 in
      subst (λ (u : Control). 0 < u.relseg) (from_control_is v.0 v.2) (told_some c root (control_at c root) v.0 refl v.1)
