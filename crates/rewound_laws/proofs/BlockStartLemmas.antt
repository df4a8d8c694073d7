-- The control file that a whole copy of a rewind's source begins its replay from.
use Rattle.std.proofs.Common.{◌≡◌, ℕ, ℤ, ◌<◌, ◌^◌, List, [], ◌∷◌, length, Option, None, Some, Result, Ok, Err, refl, sym, ap, ◌∙◌, subst}
use Rattle.rmgr_hooks.specs.Custom.{Extension}
use Rattle.std.specs.Option.{option_map}
use Rattle.backup_label.specs.declared.reading.LabelPlaces.{LabelPlaces}
use Rattle.cluster_laws.proofs.StartLemmas.{control-path}
use Rattle.cluster_tree.specs.Causes.{first_of, given}
use Rattle.cluster_tree.specs.Contents.{Contents, Entry, FolderEntry, FileEntry, LinkEntry, entry_at}
use Rattle.cluster_tree.specs.PathValue.{PathValue, below}
use Rattle.cluster_tree.specs.Tree.{file_of}
use Rattle.clusters.specs.Marks.{unfinished}
use Rattle.clusters.specs.RootControl.{at_root, control_at, control_in}
use Rattle.clusters.specs.RootHistory.{history_at}
use Rattle.clusters.specs.declared.fault.ClusterFault.{ClusterFault}
use Rattle.control_file.specs.Admission.{control_of}
use Rattle.control_file.specs.Reading.{timeline_of}
use Rattle.control_file.specs.Writing.{control_bytes}
use Rattle.control_file.specs.declared.control.Control.{Control}
use Rattle.control_file.specs.declared.fault.ControlFault.{ControlFault}
use Rattle.control_file.specs.declared.fault.ControlFault.TheVariants as control
use Rattle.replay_laws.proofs.WorldLemmas.{given-ok, not-refused}
use Rattle.replay_start.specs.Checked.{Start, checksums_on, from_control, from_label, in_log, label_at, log_with, no_hints, start_of}
use Rattle.replay_start.specs.Faults.{told_by}
use Rattle.replay_start.specs.Scanned.{log_refusal}
use Rattle.replay_start.specs.declared.fault.ReplayFault.{ReplayFault}
use Rattle.replay_start.specs.declared.fault.ReplayFault.TheVariants as fault
use Rattle.rewind_core.specs.Planned.{Aim, Needing}
use Rattle.rewind_plan.specs.Sides.{control_parts}
use Rattle.rewound_tree.specs.Rewound.{whole_copy}
use Rattle.wal_pages.specs.declared.log_path.LogPath.{LogPath}
use Rattle.wal_records.specs.Further.{pages_of}
use Rattle.wal_records.specs.Log.{log_of}
use Rattle.wal_records.specs.Reading.{LogRecord}
use Rattle.wal_base.specs.Segment.{bytes_of}
use Rattle.rewound_laws.specs.Copy.{IsWholeCopy}
use Rattle.rewound_laws.specs.Needed.{IsNeeded}
use Rattle.rewound_laws.proofs.BlockControlLemmas.{nonce-long, relseg-again, relseg-fits, relseg-some}
use Rattle.rewound_laws.proofs.NeededLemmas.{needed-relseg}

-- ---- a control file that was read is a file of such bytes

record IsRead (o : Option Entry) (v : Control) : Type 0 where
  bytes : List ℕ
  there : o ≡ Some (FileEntry bytes)
  says : control_of bytes ≡ Ok v

admitted : (root : PathValue) (r : Result Control ControlFault) (v : Control) → at_root root r ≡ Ok v → r ≡ Ok v
admitted root (Ok v) w h = let same : v ≡ w = cc in ap (λ x. Ok x) same
admitted root (Err (control.Size n)) v h = absurd (cc h)
admitted root (Err (control.Crc stored computed)) v h = absurd (cc h)
admitted root (Err (control.Version n)) v h = absurd (cc h)
admitted root (Err (control.Catalog n)) v h = absurd (cc h)
admitted root (Err (control.Shape field n)) v h = absurd (cc h)

read_by : (root : PathValue) (o : Option Entry) (v : Control) → control_in root (file_of o) ≡ Ok v → IsRead o v
read_by root None v h = absurd (cc h)
read_by root (Some (FolderEntry bad)) v h = absurd (cc h)
read_by root (Some (FileEntry bytes)) v h = record { bytes = bytes; there = refl; says = admitted root (control_of bytes) v h }
read_by root (Some LinkEntry) v h = absurd (cc h)

read_at : (c : Contents) (root : PathValue) (v : Control) → control_at c root ≡ Ok v → IsRead (entry_at c (below root control_parts)) v
unfolding control_at
read_at c root v h = read_by root (entry_at c (below root control_parts)) v (ap (λ p. control_in root (file_of (entry_at c p))) (sym (control-path root)) ∙ h)

-- ---- a start has the control file of its root

told_ok : (r : Result Control ClusterFault) (v : Control) → told_by r ≡ Ok v → r ≡ Ok v
told_ok (Ok v) w h = let same : v ≡ w = cc in ap (λ x. Ok x) same
told_ok (Err e) v h = absurd (cc h)

abbrev OkStart : Start → Result Start ReplayFault
OkStart s = Ok s

one_start : (a b : Start) → OkStart a ≡ OkStart b → a ≡ b
one_start a b e = cc

module _ (custom : Option Extension) (c : Contents) (root : PathValue) (s : Start) where
  in_log_control : (v : Control) (label : LabelPlaces) (o : Option LogPath) → in_log custom c root v label o ≡ Ok s → s.control ≡ v
  in_log_control v label None h = absurd (cc h)
  in_log_control v label (Some log) h =
      let records : List LogRecord = (log_of (pages_of log c) (bytes_of log.size) label.start.0).records in
      let two = not-refused (log_refusal custom root v label records) (OkStart (record { control = v; label = label; log = log; records = records })) s h in
      sym (ap (λ (x : Start). x.control) (one_start (record { control = v; label = label; log = log; records = records }) s two.1))

  label_control : (v : Control) (label : LabelPlaces) → from_label custom c root v label ≡ Ok s → s.control ≡ v
  unfolding from_label
  label_control v label h =
      let spans = given-ok (told_by (history_at c root (timeline_of v))) (λ spans. in_log custom c root v label (log_with root v spans)) s h in
      in_log_control v label (log_with root v spans.0) spans.2

  from_control_is : (v : Control) → from_control custom c root v ≡ Ok s → s.control ≡ v
  unfolding from_control
  from_control_is v h =
      let read = not-refused (first_of (checksums_on root v ∷ no_hints root v ∷ [])) (given (label_at c root) (from_label custom c root v)) s h in
      let label = given-ok (label_at c root) (from_label custom c root v) s read.1 in
      label_control v label.0 label.2

  start_control : start_of custom c root ≡ Ok s → control_at c root ≡ Ok s.control
  unfolding start_of
  start_control h =
      let read = not-refused (option_map fault.Cluster (unfinished c root)) (given (told_by (control_at c root)) (from_control custom c root)) s h in
      let v = given-ok (told_by (control_at c root)) (from_control custom c root) s read.1 in
      told_ok (control_at c root) v.0 v.1 ∙ ap (λ x. Ok x) (sym (from_control_is v.0 v.2))

-- ---- so the copy's says what the rewind knows

file_bytes : (a b : List ℕ) → Some (FileEntry a) ≡ Some (FileEntry b) → a ≡ b
file_bytes a b e = cc

module _ (custom : Option Extension) (c d : Contents) (target source other : PathValue) (now : ℤ) (n : Needing) (s : Start) (needed : IsNeeded c target source now n) where
  source_file : IsRead (entry_at c (below source control_parts)) needed.s
  source_file = read_at c source needed.s needed.source_read

  same_nonce : n.aim.control.nonce ≡ needed.s.nonce
  same_nonce = ap (λ (x : Aim). x.control.nonce) needed.aimed

  same_relseg : n.aim.control.relseg ≡ needed.s.relseg
  same_relseg = ap (λ (x : Aim). x.control.relseg) needed.aimed

  pub some-blocks : 0 < n.aim.between.per_file
  some-blocks = subst (λ k. 0 < k) (sym same_relseg ∙ needed-relseg c target source now n needed) (relseg-some source_file.bytes needed.s source_file.says)

  copied_control : IsWholeCopy c n d other → entry_at d (below other control_parts) ≡ Some (FileEntry (control_bytes n.aim.control))
  unfolding whole_copy
  copied_control copy = copy control_parts

  pub copy-relseg : IsWholeCopy c n d other → start_of custom d other ≡ Ok s → s.control.relseg ≡ n.aim.between.per_file
  copy-relseg copy starts =
      let read : IsRead (entry_at d (below other control_parts)) s.control = read_at d other s.control (start_control custom d other s starts) in
      let same : read.bytes ≡ control_bytes n.aim.control = file_bytes read.bytes (control_bytes n.aim.control) (sym read.there ∙ copied_control copy) in
      relseg-again n.aim.control (ap length same_nonce ∙ nonce-long source_file.bytes needed.s source_file.says) s.control
      (subst (λ k. k < 2 ^ 32) (sym same_relseg) (relseg-fits source_file.bytes needed.s source_file.says)) (ap control_of (sym same) ∙ read.says)
      ∙ needed-relseg c target source now n needed
