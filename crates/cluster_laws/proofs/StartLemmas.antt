-- Alike clusters pass the same checks before a replay, and read one log.
use Rattle.std.proofs.Common.{◌≡◌, ℕ, ◌==◌, Bool, true, false, not, ◌&&◌, cond, List, [], ◌∷◌, codes, Option, None, Some, Result, Ok, Err, is_some, refl, sym, ap, ap₂, ◌∙◌, append_assoc, true≢false, arith}
use Rattle.rmgr_hooks.specs.Custom.{Extension}
use Rattle.std.proofs.Math.Path.{fun_ext}
use Rattle.std.proofs.lemmas.Bool.Decides.{nat_tests}
use Rattle.std.specs.Prelude.{if◌then◌else◌, option_map}
use Rattle.std.specs.List.{list_all, list_any}
use Rattle.alike_clusters.specs.Clusters.{AlikeClusters, is_alike}
use Rattle.alike_clusters.proofs.LikeLemmas.{same-bytes}
use Rattle.alike_clusters.proofs.NameLemmas.{free-no_version}
use Rattle.backup_label.specs.Reading.{label_of}
use Rattle.backup_label.specs.declared.fault.LabelFault.{LabelFault}
use Rattle.backup_label.specs.declared.fault.LabelFault.TheVariants as label
use Rattle.backup_label.specs.declared.reading.LabelPlaces.{LabelPlaces}
use Rattle.cluster_tree.specs.Causes.{first_of, given, unless}
use Rattle.cluster_tree.specs.Contents.{Contents, Entry, FolderEntry, FileEntry, LinkEntry, entry_at}
use Rattle.cluster_tree.specs.Marks.{MarkPaths, is_there, marks_of}
use Rattle.cluster_tree.specs.PathValue.{PathValue, below, path_of}
use Rattle.cluster_tree.specs.Tree.{file_of}
use Rattle.cluster_tree.specs.declared.tree.TreeFault.{TreeFault}
use Rattle.clusters.specs.Marks.{unfinished, with_mark}
use Rattle.clusters.specs.RootControl.{at_root, control_at, control_in}
use Rattle.clusters.specs.RootHistory.{history_at, history_in, with_root}
use Rattle.clusters.specs.RootLog.{log_at}
use Rattle.clusters.specs.Roots.{history_name, history_path, path_in, wal_folder}
use Rattle.clusters.specs.declared.fault.ClusterFault.{ClusterFault}
use Rattle.control_file.specs.Admission.{control_of}
use Rattle.control_file.specs.Reading.{timeline_of}
use Rattle.control_file.specs.declared.control.Control.{Control}
use Rattle.control_file.specs.declared.fault.ControlFault.{ControlFault}
use Rattle.control_file.specs.declared.fault.ControlFault.TheVariants as control
use Rattle.file_edits.specs.Alike.{AlikeEntries, Neither, Folders, Files, Links}
use Rattle.file_walk.specs.Actions.{is_version}
use Rattle.file_walk.specs.Relations.{relation_of}
use Rattle.relation_files.specs.Reading.{file_named}
use Rattle.relation_files.proofs.CutLemmas.{and_parts, without}
use Rattle.relation_files.proofs.NameLemmas.{both_free}
use Rattle.replay_laws.proofs.WorldLemmas.{given-ok, not-refused}
use Rattle.replay_profile.specs.Profile.{first_outside}
use Rattle.replay_start.specs.Checked.{Start, checksums_on, from_control, from_label, in_log, label_at, label_in, log_with, no_hints, start_of, with_label, with_records}
use Rattle.replay_start.specs.Faults.{of_profile, told_by}
use Rattle.replay_start.specs.Scanned.{ends_too_soon, is_labelled, log_refusal, unlabelled}
use Rattle.replay_start.specs.declared.fault.ReplayFault.{ReplayFault}
use Rattle.replay_start.specs.declared.fault.ReplayFault.TheVariants as fault
use Rattle.timeline_history.specs.History.{history_of}
use Rattle.timeline_history.specs.declared.fault.HistoryFault.{HistoryFault}
use Rattle.timeline_history.specs.declared.fault.HistoryFault.TheVariants as history
use Rattle.wal_base.specs.Decimal.{decimal_number}
use Rattle.wal_base.specs.Hex.{hex8, hex_digits, is_upper_hex}
use Rattle.wal_base.specs.Segment.{bytes_of, name_of}
use Rattle.wal_base.specs.Spans.{open_span}
use Rattle.wal_base.specs.SizeOfBytes.{size_of_bytes}
use Rattle.wal_base.specs.declared.seg_size.SegSize.{SegSize}
use Rattle.wal_base.specs.declared.spans.Span.{Span}
use Rattle.wal_base.proofs.HexDigits.{upper-hex_digits}
use Rattle.wal_pages.specs.Folder.{Folder, file_in, folder_of}
use Rattle.wal_pages.specs.LogBytes.{segment_of}
use Rattle.wal_pages.specs.Page.{page_at}
use Rattle.wal_pages.specs.ValidPage.{first_bad_field}
use Rattle.wal_pages.specs.declared.log_path.LogPath.{LogPath}
use Rattle.wal_pages.proofs.FilesLemmas.{same_pages}
use Rattle.cluster_laws.specs.Starts.{StartsAs}
use Rattle.wal_records.specs.Further.{Pages, pages_of}
use Rattle.wal_records.specs.Log.{end_after, log_of}
use Rattle.wal_records.specs.Reading.{LogRecord}

-- ---- names in the folder of the log

other_byte : (x : ℕ) (b : Bool) → (x == 80) ≡ b → is_upper_hex x ≡ true → not b ≡ true
other_byte x true is upper = let same : x ≡ 80 = grind (arith, nat_tests, is) in absurd (true≢false (sym upper ∙ ap is_upper_hex same))
other_byte x false is upper = refl

upper_free : (text : List ℕ) → list_all is_upper_hex text ≡ true → without 80 text ≡ true
unfolding without
upper_free [] h = refl
upper_free (x ∷ xs) h =
    let two = and_parts (is_upper_hex x) (list_all is_upper_hex xs) h in
    ap₂ (λ a b. a && b) (other_byte x (x == 80) refl two.0) (upper_free xs two.1)

hex_free : (w n : ℕ) → without 80 (hex_digits w n) ≡ true
hex_free w n = upper_free (hex_digits w n) (upper-hex_digits w n)

segment_free : (log : LogPath) (number : ℕ) → without 80 (name_of (segment_of log number)) ≡ true
segment_free log number =
    both_free 80 _ _ (both_free 80 _ _ (hex_free 8 _) (hex_free 8 _)) (hex_free 8 _)

history_end : without 80 (codes ".history") ≡ true
unfolding without
history_end = refl

history_free : (tli : ℕ) → without 80 (history_name tli) ≡ true
unfolding history_name
history_free tli = both_free 80 (hex8 tli) (codes ".history") (hex_free 8 tli) history_end

wal_not_main : (name : List ℕ) → relation_of (path_of false (codes "pg_wal" ∷ name ∷ [])) ≡ None
unfolding relation_of
wal_not_main name = refl

pub control-no_version : is_version (path_of false (codes "global" ∷ codes "pg_control" ∷ [])) ≡ false
control-no_version = refl

pub control-not_main : relation_of (path_of false (codes "global" ∷ codes "pg_control" ∷ [])) ≡ None
unfolding relation_of file_named decimal_number
control-not_main = refl

label_not_main : relation_of (path_of false (codes "backup_label" ∷ [])) ≡ None
unfolding relation_of
label_not_main = refl

pub control-path : (root : PathValue) → path_in root (codes "global/pg_control") ≡ below root (codes "global" ∷ codes "pg_control" ∷ [])
unfolding path_in
control-path root = refl

-- ---- what is read, by the root alone

abbrev OkBytes : List ℕ → Result (List ℕ) TreeFault
OkBytes bytes = Ok bytes

unmarked : (marks others : MarkPaths) (a b e : Bool) → with_mark marks (cond a (Some 0) (cond b (Some 1) (cond e (Some 2) None))) ≡ None → with_mark others (cond a (Some 0) (cond b (Some 1) (cond e (Some 2) None))) ≡ None
unmarked marks others true b e h = absurd cc
unmarked marks others false true e h = absurd cc
unmarked marks others false false true h = absurd cc
unmarked marks others false false false h = refl

module _ (custom : Option Extension) (root other : PathValue) where
  admitted : (r : Result Control ControlFault) (v : Control) → at_root root r ≡ Ok v → at_root other r ≡ Ok v
  admitted (Ok c) v h = h
  admitted (Err (control.Size n)) v h = absurd cc
  admitted (Err (control.Crc stored computed)) v h = absurd cc
  admitted (Err (control.Version n)) v h = absurd cc
  admitted (Err (control.Catalog n)) v h = absurd cc
  admitted (Err (control.Shape field n)) v h = absurd cc

  control_read : (r : Result (List ℕ) TreeFault) (v : Control) → control_in root r ≡ Ok v → control_in other r ≡ Ok v
  control_read (Ok bytes) v h = admitted (control_of bytes) v h
  control_read (Err e) v h = absurd cc

  placed : (r : Result LabelPlaces LabelFault) (v : LabelPlaces) → with_label root r ≡ Ok v → with_label other r ≡ Ok v
  placed (Ok places) v h = h
  placed (Err label.Start) v h = absurd cc
  placed (Err label.Checkpoint) v h = absurd cc

  label_read : (r : Result (List ℕ) TreeFault) (v : LabelPlaces) → label_in root r ≡ Ok v → label_in other r ≡ Ok v
  label_read (Ok bytes) v h = placed (label_of bytes) v h
  label_read (Err e) v h = absurd cc

  rooted : (tli : ℕ) (r : Result (List Span) HistoryFault) (v : List Span) → with_root root tli r ≡ Ok v → with_root other tli r ≡ Ok v
  rooted tli (Ok spans) v h = h
  rooted tli (Err (history.BadLine n)) v h = absurd cc
  rooted tli (Err (history.NotRising n)) v h = absurd cc
  rooted tli (Err history.OutOfMemory) v h = absurd cc

  history_read : (tli : ℕ) (r : Result (List ℕ) TreeFault) (v : List Span) → history_in root tli r ≡ Ok v → history_in other tli r ≡ Ok v
  history_read tli (Ok bytes) v h = rooted tli (history_of tli bytes) v h
  history_read tli (Err e) v h = absurd cc

  told_ok : {A : Type 0} (r : Result A ClusterFault) (v : A) → told_by r ≡ Ok v → r ≡ Ok v
  told_ok (Ok a) v h = let same : a ≡ v = cc in ap (λ x. Ok x) same
  told_ok (Err e) v h = absurd cc

  flags_same : (v : Control) → first_of (checksums_on root v ∷ no_hints root v ∷ []) ≡ None → first_of (checksums_on other v ∷ no_hints other v ∷ []) ≡ None
  unfolding checksums_on no_hints first_of
  flags_same v h = by (v.checksumVersion == 0) (v.walLogHints == 0) h
    where
      by : (a b : Bool) → first_of ((if a then None else Some (fault.ChecksumsOn root)) ∷ (if b then Some (fault.NoHints root) else None) ∷ []) ≡ None
          → first_of ((if a then None else Some (fault.ChecksumsOn other)) ∷ (if b then Some (fault.NoHints other) else None) ∷ []) ≡ None
      by true true h = absurd cc
      by true false h = refl
      by false b h = absurd cc

  refusal_same : (v : Control) (places : LabelPlaces) (records : List LogRecord) → log_refusal custom root v places records ≡ None → log_refusal custom other v places records ≡ None
  unfolding log_refusal first_of
  refusal_same v places records h =
      by (option_map of_profile (first_outside custom records)) (ends_too_soon v.minRecoveryPoint (end_after places.start.0 records)) (list_any (is_labelled places) records) h
    where
      by : (a b : Option ReplayFault) (t : Bool) → first_of (a ∷ b ∷ unlabelled root t ∷ []) ≡ None → first_of (a ∷ b ∷ unlabelled other t ∷ []) ≡ None
      by (Some e) b t h = absurd cc
      by None (Some e) t h = absurd cc
      by None None true h = refl
      by None None false h = absurd cc

  -- pages of one folder's files, wherever the folder is
  pages_moved : (system : Option ℕ) (spans : List Span) (size : SegSize) (files : Folder) (at : ℕ) → page_at (log_at root system spans size) files at ≡ page_at (log_at other system spans size) files at
  unfolding page_at first_bad_field
  pages_moved system spans size files at = refl

-- ---- what stands at alike paths

module _ (custom : Option Extension) (per : ℕ) (root other : PathValue) (c d : Contents) (both : AlikeClusters per c root d other) where
  there_same : (parts : List (List ℕ)) → is_there c (below root parts) ≡ is_there d (below other parts)
  there_same parts = by (entry_at c (below root parts)) (entry_at d (below other parts)) (both.alike parts)
    where
      by : (o p : Option Entry) → AlikeEntries (is_alike per parts) o p → is_some o ≡ is_some p
      by o p Neither = refl
      by o p (Folders bad) = refl
      by o p (Files a b is) = refl
      by o p Links = refl

  file_same : (parts : List (List ℕ)) → is_version (path_of false parts) ≡ false → relation_of (path_of false parts) ≡ None → file_of (entry_at c (below root parts)) ≡ file_of (entry_at d (below other parts))
  file_same parts off none = by (entry_at c (below root parts)) (entry_at d (below other parts)) (both.alike parts)
    where
      by : (o p : Option Entry) → AlikeEntries (is_alike per parts) o p → file_of o ≡ file_of p
      by o p Neither = refl
      by o p (Folders bad) = refl
      by o p (Files a b is) = ap OkBytes (same-bytes per parts off none a b is)
      by o p Links = refl

  -- in the folder of the log
  wal_path : (at : PathValue) (name : List ℕ) → below (wal_folder at) (name ∷ []) ≡ below at (codes "pg_wal" ∷ name ∷ [])
  wal_path at name = ap (path_of at.absolute) (append_assoc at.parts (codes "pg_wal" ∷ []) (name ∷ []))

  wal_no_version : (name : List ℕ) → without 80 name ≡ true → is_version (path_of false (codes "pg_wal" ∷ name ∷ [])) ≡ false
  wal_no_version name free = free-no_version (codes "pg_wal" ∷ name ∷ []) name refl free

  wal_same : (name : List ℕ) → without 80 name ≡ true → file_of (entry_at c (below (wal_folder root) (name ∷ []))) ≡ file_of (entry_at d (below (wal_folder other) (name ∷ [])))
  wal_same name free =
      ap (λ p. file_of (entry_at c p)) (wal_path root name)
      ∙ file_same (codes "pg_wal" ∷ name ∷ []) (wal_no_version name free) (wal_not_main name)
      ∙ ap (λ p. file_of (entry_at d p)) (sym (wal_path other name))

  bytes_of_file : Result (List ℕ) TreeFault → Option (List ℕ)
  bytes_of_file (Ok bytes) = Some bytes
  bytes_of_file (Err e) = None

  file_told : (o : Option Entry) → file_in o ≡ bytes_of_file (file_of o)
  unfolding bytes_of_file
  file_told None = refl
  file_told (Some (FolderEntry bad)) = refl
  file_told (Some (FileEntry bytes)) = refl
  file_told (Some LinkEntry) = refl

  folder_same : (name : List ℕ) → without 80 name ≡ true → folder_of c (wal_folder root) name ≡ folder_of d (wal_folder other) name
  folder_same name free =
      file_told (entry_at c (below (wal_folder root) (name ∷ []))) ∙ ap bytes_of_file (wal_same name free) ∙ sym (file_told (entry_at d (below (wal_folder other) (name ∷ []))))

  pages_same : (system : Option ℕ) (spans : List Span) (size : SegSize) → pages_of (log_at root system spans size) c ≡ pages_of (log_at other system spans size) d
  pages_same system spans size = fun_ext (λ at.
      same_pages (log_at root system spans size) (folder_of c (wal_folder root)) (folder_of d (wal_folder other)) (λ number. folder_same (name_of (segment_of (log_at root system spans size) number)) (segment_free (log_at root system spans size) number)) at
      ∙ pages_moved custom root other system spans size (folder_of d (wal_folder other)) at)

  unfinished_same : unfinished c root ≡ None → unfinished d other ≡ None
  unfolding unfinished
  unfinished_same h =
      let a = there_same (codes "pg_rewind.unfinished" ∷ []) in
      let b = there_same (codes "pg_walreplay.unfinished" ∷ []) in
      let e = there_same (codes "pg_resetwal.unfinished" ∷ []) in
      ap (λ x. with_mark (marks_of other) (cond x (Some 0) (cond (is_there d (marks_of other).replay) (Some 1) (cond (is_there d (marks_of other).reset) (Some 2) None)))) (sym a)
      ∙ ap (λ x. with_mark (marks_of other) (cond (is_there c (marks_of root).rewind) (Some 0) (cond x (Some 1) (cond (is_there d (marks_of other).reset) (Some 2) None)))) (sym b)
      ∙ ap (λ x. with_mark (marks_of other) (cond (is_there c (marks_of root).rewind) (Some 0) (cond (is_there c (marks_of root).replay) (Some 1) (cond x (Some 2) None)))) (sym e)
      ∙ unmarked (marks_of root) (marks_of other) (is_there c (marks_of root).rewind) (is_there c (marks_of root).replay) (is_there c (marks_of root).reset) h

  control_same : (v : Control) → control_at c root ≡ Ok v → control_at d other ≡ Ok v
  unfolding control_at
  control_same v h =
      ap (λ p. control_in other (file_of (entry_at d p))) (control-path other)
      ∙ ap (control_in other) (sym (file_same (codes "global" ∷ codes "pg_control" ∷ []) control-no_version control-not_main))
      ∙ control_read custom root other (file_of (entry_at c (below root (codes "global" ∷ codes "pg_control" ∷ [])))) v (ap (λ p. control_in root (file_of (entry_at c p))) (sym (control-path root)) ∙ h)

  label_no_version : is_version (path_of false (codes "backup_label" ∷ [])) ≡ false
  label_no_version = refl

  label_same : (v : LabelPlaces) → label_at c root ≡ Ok v → label_at d other ≡ Ok v
  unfolding label_at
  label_same v h =
      ap (label_in other) (sym (file_same (codes "backup_label" ∷ []) label_no_version label_not_main))
      ∙ label_read custom root other (file_of (entry_at c (below root (codes "backup_label" ∷ [])))) v h

  history_same : (tli : ℕ) (v : List Span) → history_at c root tli ≡ Ok v → history_at d other tli ≡ Ok v
  unfolding history_at
  history_same tli v h = by (tli == 1) h
    where
      by : (t : Bool) → (if t then Ok (open_span 1 record { 0 = 0 } ∷ []) else history_in root tli (file_of (entry_at c (history_path root tli)))) ≡ Ok v
          → (if t then Ok (open_span 1 record { 0 = 0 } ∷ []) else history_in other tli (file_of (entry_at d (history_path other tli)))) ≡ Ok v
      by true h = h
      by false h =
          ap (history_in other tli) (sym (wal_same (history_name tli) (history_free tli)))
          ∙ history_read custom root other tli (file_of (entry_at c (history_path root tli))) v h

  -- ---- so the other cluster passes too, with the same control file, label and log

  record From (s : Start) (r : Result Start ReplayFault) : Type 0 where
    start : Start
    is : r ≡ Ok start
    control : start.control ≡ s.control
    label : start.label ≡ s.label
    records : start.records ≡ s.records

  as_by : (s : Start) (r q : Result Start ReplayFault) → r ≡ q → From s q → From s r
  as_by s r q e x = record { start = x.start; is = e ∙ x.is; control = x.control; label = x.label; records = x.records }

  abbrev OkStart : Start → Result Start ReplayFault
  OkStart s = Ok s

  records_start : (v : Control) (places : LabelPlaces) (system : Option ℕ) (spans : List Span) (size : SegSize) (s : Start)
      → in_log custom c root v places (Some (log_at root system spans size)) ≡ Ok s → From s (in_log custom d other v places (Some (log_at other system spans size)))
  records_start v places system spans size s h =
      let records : List LogRecord = (log_of (pages_of (log_at root system spans size) c) (bytes_of size) places.start.0).records in
      let here : Start = record { control = v; label = places; log = log_at root system spans size; records = records } in
      let there : Start = record { control = v; label = places; log = log_at other system spans size; records = records } in
      let two = not-refused (log_refusal custom root v places records) (Ok here) s h in
      let told : here ≡ s = one_start here s two.1 in
      as_by s (in_log custom d other v places (Some (log_at other system spans size))) (with_records custom other v places (log_at other system spans size) records)
      (ap (λ (pages : Pages). with_records custom other v places (log_at other system spans size) (log_of pages (bytes_of size) places.start.0).records) (sym (pages_same system spans size)))
      (record {
        start = there;
        is = ap (λ o. unless o (Ok there)) (refusal_same custom root other v places records two.0);
        control = ap (λ (x : Start). x.control) told;
        label = ap (λ (x : Start). x.label) told;
        records = ap (λ (x : Start). x.records) told;
      })
    where
      one_start : (a b : Start) → OkStart a ≡ Ok b → a ≡ b
      one_start a b e = cc

  log_start : (v : Control) (places : LabelPlaces) (system : Option ℕ) (spans : List Span) (s : Start) (size : Option SegSize)
      → in_log custom c root v places (option_map (log_at root system spans) size) ≡ Ok s → From s (in_log custom d other v places (option_map (log_at other system spans) size))
  log_start v places system spans s None h = absurd cc
  log_start v places system spans s (Some size) h = records_start v places system spans size s h

  label_start : (v : Control) (places : LabelPlaces) (s : Start) → from_label custom c root v places ≡ Ok s → From s (from_label custom d other v places)
  unfolding from_label
  label_start v places s h =
      let spans = given-ok (told_by (history_at c root (timeline_of v))) (λ spans. in_log custom c root v places (log_with root v spans)) s h in
      as_by s (from_label custom d other v places) (in_log custom d other v places (log_with other v spans.0))
      (ap (λ r. given (told_by r) (λ spans. in_log custom d other v places (log_with other v spans))) (history_same (timeline_of v) spans.0 (told_ok custom root other (history_at c root (timeline_of v)) spans.0 spans.1)))
      (log_start v places (Some v.sysid) spans.0 s (size_of_bytes v.walSegSize) spans.2)

  control_start : (v : Control) (s : Start) → from_control custom c root v ≡ Ok s → From s (from_control custom d other v)
  unfolding from_control
  control_start v s h =
      let flags = not-refused (first_of (checksums_on root v ∷ no_hints root v ∷ [])) (given (label_at c root) (from_label custom c root v)) s h in
      let places = given-ok (label_at c root) (from_label custom c root v) s flags.1 in
      as_by s (from_control custom d other v) (from_label custom d other v places.0)
      (ap (λ o. unless o (given (label_at d other) (from_label custom d other v))) (flags_same custom root other v flags.0)
      ∙ ap (λ r. given r (from_label custom d other v)) (label_same places.0 places.1))
      (label_start v places.0 s places.2)

  mapped_none : (o : Option ClusterFault) → option_map fault.Cluster o ≡ None → o ≡ None
  mapped_none None h = refl
  mapped_none (Some e) h = absurd cc

  from_start : (s : Start) → start_of custom c root ≡ Ok s → From s (start_of custom d other)
  unfolding start_of
  from_start s h =
      let marks = not-refused (option_map fault.Cluster (unfinished c root)) (given (told_by (control_at c root)) (from_control custom c root)) s h in
      let read = given-ok (told_by (control_at c root)) (from_control custom c root) s marks.1 in
      as_by s (start_of custom d other) (from_control custom d other read.0)
      (ap (λ o. unless (option_map fault.Cluster o) (given (told_by (control_at d other)) (from_control custom d other))) (unfinished_same (mapped_none (unfinished c root) marks.0))
      ∙ ap (λ r. given (told_by r) (from_control custom d other)) (control_same read.0 (told_ok custom root other (control_at c root) read.0 read.1)))
      (control_start read.0 s read.2)

  pub starts-as : (s : Start) → start_of custom c root ≡ Ok s → StartsAs custom d other s
  starts-as s h = let x = from_start s h in record { start = x.start; passes = x.is; control = x.control; label = x.label; records = x.records }
