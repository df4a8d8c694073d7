-- What is known of a cluster that passed every check, before the mark and behind it.
use Rattle.std.proofs.Common.{◌≡◌, ◌≢◌, ℕ, Bool, true, false, cond, List, [], ◌∷◌, Option, None, Some, is_some, option_map, Result, Ok, Err, IfSome, refl, sym, ap, ◌∙◌, subst, true≢false}
use Rattle.std.specs.FinMap.{insert}
use Rattle.backup_label.specs.declared.reading.LabelPlaces.{LabelPlaces}
use Rattle.cluster_tree.specs.Causes.{first_of, given, unless}
use Rattle.cluster_tree.specs.Change.{all_changed, first_refusal}
use Rattle.cluster_tree.specs.Contents.{Contents, Entry, FolderEntry, FileEntry, LinkEntry, IsTree, entry_at, is_file}
use Rattle.cluster_tree.specs.Marks.{MarkPaths, is_there, marks_of}
use Rattle.cluster_tree.specs.PathValue.{PathValue, Holds, below}
use Rattle.cluster_tree.specs.Tree.{file_of}
use Rattle.cluster_tree.specs.declared.tree.TreeFault.{TreeFault}
use Rattle.cluster_tree.proofs.ContentsLemmas.{entry-put_other}
use Rattle.cluster_tree.proofs.RootLemmas.{holds-below}
use Rattle.clusters.specs.Marks.{unfinished, with_mark}
use Rattle.clusters.specs.RootControl.{control_at, control_in}
use Rattle.clusters.specs.RootHistory.{history_at}
use Rattle.clusters.specs.Roots.{wal_folder}
use Rattle.clusters.specs.declared.fault.ClusterFault.{ClusterFault}
use Rattle.control_file.specs.Reading.{timeline_of}
use Rattle.control_file.specs.declared.control.Control.{Control}
use Rattle.replay_profile.specs.Profile.{first_outside}
use Rattle.wal_base.specs.Segment.{bytes_of, name_of}
use Rattle.wal_pages.specs.declared.log_path.LogPath.{LogPath}
use Rattle.wal_pages.specs.Folder.{file_in}
use Rattle.wal_pages.specs.LogBytes.{segment_of}
use Rattle.wal_records.specs.Cursor.{Knows}
use Rattle.wal_records.specs.Further.{Pages, pages_of}
use Rattle.wal_records.specs.Laws.{SameLog}
use Rattle.wal_records.specs.Log.{end_after, log_of}
use Rattle.wal_records.specs.Reading.{LogRecord}
use Rattle.wal_records.proofs.FilesLemmas.{same_log}
use Rattle.replay_start.specs.Checked.{IsStart, Start, checksums_on, from_control, from_label, in_log, label_at, label_in, log_with, no_hints, start_of}
use Rattle.replay_start.specs.Faults.{of_profile, told_by}
use Rattle.replay_start.specs.Scanned.{log_refusal}
use Rattle.replay_start.specs.declared.checked.Checked.{Checked}
use Rattle.replay_start.specs.declared.fault.ReplayFault.TheVariants as fault
use Rattle.replay_core.specs.Replayed.{beginning, control_path, label_path, mark_of, mark_text}
use Rattle.replay_core.specs.Stages.{EndsStand, HasLog, IsChecked, Stand, records_in, start_in}
use Rattle.replay_core.specs.Under.{WasStart}
use Rattle.replay_core.specs.Within.{LogStays}
use Rattle.replay_core.proofs.PathLemmas.{log-mark}
use Rattle.replay_core.proofs.StandLemmas.{beginning-unrefused, begun-contents, begun-stand}
use Rattle.rmgr_hooks.specs.Custom.{Extension}

-- ---- points that don't refuse

unless_ok : {A E : Type 0} (o : Option E) (answer : Result A E) (v : A) → unless o answer ≡ Ok v → (o ≡ None) × (answer ≡ Ok v)
unless_ok None answer v e = (refl, e)
unless_ok (Some f) answer v e = absurd (cc e)

record Given {A B E : Type 0} (r : Result A E) (f : A → Result B E) (v : B) : Type 0 where
  read : A
  is : r ≡ Ok read
  next : f read ≡ Ok v

given_ok : {A B E : Type 0} (r : Result A E) (f : A → Result B E) (v : B) → given r f ≡ Ok v → Given r f v
given_ok (Ok x) f v e = record { read = x; is = refl; next = e }
given_ok (Err x) f v e = absurd (cc e)

first_none : {E : Type 0} (o : Option E) (points : List (Option E)) → first_of (o ∷ points) ≡ None → o ≡ None
unfolding first_of
first_none None points e = refl
first_none (Some x) points e = absurd (cc e)

map_none : {A B : Type 0} (f : A → B) (o : Option A) → option_map f o ≡ None → o ≡ None
map_none f None e = refl
map_none f (Some x) e = absurd (cc e)

told_ok : {A : Type 0} (r : Result A ClusterFault) (v : A) → told_by r ≡ Ok v → r ≡ Ok v
told_ok (Ok x) v e = let is : x ≡ v = cc e in ap (λ y. Ok y) is
told_ok (Err f) v e = absurd (cc e)

-- ---- the mark, the control file and the label

none_there : (o : Option Entry) → is_some o ≡ false → o ≡ None
none_there None e = refl
none_there (Some entry) e = absurd (true≢false e)

second_none : (marks : MarkPaths) (a b d : Bool) → with_mark marks (cond a (Some 0) (cond b (Some 1) (cond d (Some 2) None))) ≡ None → b ≡ false
second_none marks true b d e = absurd (cc e)
second_none marks false true d e = absurd (cc e)
second_none marks false false d e = refl

unmarked : (c : Contents) (root : PathValue) → unfinished c root ≡ None → entry_at c (mark_of root) ≡ None
unfolding unfinished
unmarked c root none =
    none_there (entry_at c (mark_of root)) (second_none (marks_of root) (is_there c (marks_of root).rewind) (is_there c (marks_of root).replay) (is_there c (marks_of root).reset) none)

file_is : (o : Option Entry) (bytes : List ℕ) → file_of o ≡ Ok bytes → is_file o ≡ true
file_is None bytes e = absurd (cc e)
file_is (Some (FolderEntry bad)) bytes e = absurd (cc e)
file_is (Some (FileEntry b)) bytes e = refl
file_is (Some LinkEntry) bytes e = absurd (cc e)

control_in_file : (root : PathValue) (o : Option Entry) (r : Result (List ℕ) TreeFault) (v : Control) → file_of o ≡ r → control_in root r ≡ Ok v → is_file o ≡ true
control_in_file root o (Ok bytes) v is e = file_is o bytes is
control_in_file root o (Err f) v is e = absurd (cc e)

control_there : (c : Contents) (root : PathValue) (v : Control) → control_at c root ≡ Ok v → is_file (entry_at c (control_path root)) ≡ true
unfolding control_at
control_there c root v e = control_in_file root (entry_at c (control_path root)) (file_of (entry_at c (control_path root))) v refl e

label_in_file : (root : PathValue) (o : Option Entry) (r : Result (List ℕ) TreeFault) (v : LabelPlaces) → file_of o ≡ r → label_in root r ≡ Ok v → is_file o ≡ true
label_in_file root o (Ok bytes) v is e = file_is o bytes is
label_in_file root o (Err f) v is e = absurd (cc e)

label_there : (c : Contents) (root : PathValue) (v : LabelPlaces) → label_at c root ≡ Ok v → is_file (entry_at c (label_path root)) ≡ true
unfolding label_at
label_there c root v e = label_in_file root (entry_at c (label_path root)) (file_of (entry_at c (label_path root))) v refl e

-- ---- a start that is given

pub record IsGiven (custom : Option Extension) (c : Contents) (root : PathValue) (s : Start) : Type 0 where
  pub mark : entry_at c (mark_of root) ≡ None
  pub control : is_file (entry_at c (control_path root)) ≡ true
  pub label : is_file (entry_at c (label_path root)) ≡ true
  pub records : s.records ≡ (log_of (pages_of s.log c) (bytes_of s.log.size) s.label.start.0).records
  pub taken : first_outside custom s.records ≡ None

record IsOfLog (custom : Option Extension) (c : Contents) (s : Start) : Type 0 where
  records : s.records ≡ (log_of (pages_of s.log c) (bytes_of s.log.size) s.label.start.0).records
  taken : first_outside custom s.records ≡ None

none_outside : (custom : Option Extension) (root : PathValue) (control : Control) (label : LabelPlaces) (records : List LogRecord) → log_refusal custom root control label records ≡ None → first_outside custom records ≡ None
unfolding log_refusal
none_outside custom root control label records e = map_none of_profile (first_outside custom records) (first_none (option_map of_profile (first_outside custom records)) _ e)

of_log : (custom : Option Extension) (c : Contents) (root : PathValue) (control : Control) (label : LabelPlaces) (o : Option LogPath) (s : Start) → in_log custom c root control label o ≡ Ok s → IsOfLog custom c s
of_log custom c root control label None s e = absurd (cc e)
of_log custom c root control label (Some log) s e =
    let records = (log_of (pages_of log c) (bytes_of log.size) label.start.0).records in
    let w = unless_ok (log_refusal custom root control label records) (Ok (record { control = control; label = label; log = log; records = records })) s e in
    let all : Start = record { control = control; label = label; log = log; records = records } in
    let same : all ≡ s = cc w.1 in
    subst (λ (x : Start). IsOfLog custom c x) same (record { records = refl; taken = none_outside custom root control label records w.0 })

pub is_given : (custom : Option Extension) (c : Contents) (root : PathValue) (s : Start) → start_of custom c root ≡ Ok s → IsGiven custom c root s
unfolding start_of from_control from_label
is_given custom c root s is =
    let a = unless_ok (option_map fault.Cluster (unfinished c root)) (given (told_by (control_at c root)) (from_control custom c root)) s is in
    let b = given_ok (told_by (control_at c root)) (from_control custom c root) s a.1 in
    let d = unless_ok (first_of (checksums_on root b.read ∷ no_hints root b.read ∷ [])) (given (label_at c root) (from_label custom c root b.read)) s b.next in
    let l = given_ok (label_at c root) (from_label custom c root b.read) s d.1 in
    let h = given_ok (told_by (history_at c root (timeline_of b.read))) (λ spans. in_log custom c root b.read l.read (log_with root b.read spans)) s l.next in
    let o = of_log custom c root b.read l.read (log_with root b.read h.read) s h.next in
    record {
      mark = unmarked c root (map_none fault.Cluster (unfinished c root) a.0);
      control = control_there c root b.read (told_ok (control_at c root) b.read b.is);
      label = label_there c root l.read l.is;
      records = o.records;
      taken = o.taken;
    }

-- ---- what was checked

made_of : (v : Checked) (c : Contents) (s : Start) → s.records ≡ (log_of (pages_of s.log c) (bytes_of s.log.size) s.label.start.0).records → IsStart s v → s ≡ start_in v c
made_of v c s records st =
    ap (λ l. record s { records = l }) records
    ∙ ap (λ (k : Control). record { control = k; label = s.label; log = s.log; records = (log_of (pages_of s.log c) (bytes_of s.log.size) s.label.start.0).records }) (sym st.control)
    ∙ ap (λ (l : LabelPlaces). record { control = v.control; label = l; log = s.log; records = (log_of (pages_of s.log c) (bytes_of s.log.size) l.start.0).records }) (sym st.label)
    ∙ ap (λ (l : LogPath). record { control = v.control; label = v.label; log = l; records = (log_of (pages_of l c) (bytes_of l.size) v.label.start.0).records }) (sym st.log)

is_checked : (custom : Option Extension) (c : Contents) (root : PathValue) (v : Checked) (s : Start) → start_of custom c root ≡ Ok s → IsStart s v → Knows v.cursor c → IsChecked custom c root v
is_checked custom c root v s is st knows =
    let made = made_of v c s (is_given custom c root s is).records st in
    record {
      start = is ∙ ap (λ (x : Start). Ok x) made;
      knows = knows;
      end = st.end ∙ ap (λ (x : Start). end_after x.label.start.0 x.records) made;
    }

-- by the answer of a check that changed nothing
pub checked-by : (custom : Option Extension) (c e : Contents) (root : PathValue) (v : Checked) → e ≡ c → (start : Start) × (start_of custom c root ≡ Ok start) × IsStart start v → Knows v.cursor e → IsChecked custom e root v
checked-by custom c e root v same (s, is, st) knows = is_checked custom e root v s (ap (λ x. start_of custom x root) same ∙ is) st knows

-- ---- the mark isn't refused, and behind it the cluster is as it was

pub mark-unrefused : (custom : Option Extension) (c : Contents) (root : PathValue) (v : Checked) → IsTree c → IsChecked custom c root v → first_refusal c (beginning root) ≡ None
mark-unrefused custom c root v tree checked =
    let g = is_given custom c root (start_in v c) checked.start in
    beginning-unrefused c root tree g.mark g.control

pub record Under (custom : Option Extension) (c c1 : Contents) (root : PathValue) (v : Checked) : Type 0 where
  pub log : HasLog custom v c1
  pub stand : Stand c1 root
  pub start : start_in v c1 ≡ start_in v c

same_files : (c : Contents) (root : PathValue) (log : LogPath) → log.folder ≡ wal_folder root → SameLog log c (insert c (mark_of root) (FileEntry mark_text))
same_files c root log is number =
    let name : List ℕ = name_of (segment_of log number) in
    let other : below log.folder (name ∷ []) ≢ mark_of root = λ e. log-mark root name (ap (λ f. below f (name ∷ [])) (sym is) ∙ e) in
    ap file_in (sym (entry-put_other c (mark_of root) (below log.folder (name ∷ [])) (FileEntry mark_text) other))

under_mark : (custom : Option Extension) (c : Contents) (root : PathValue) (v : Checked) → IsChecked custom c root v → v.cursor.log.folder ≡ wal_folder root → Under custom c (insert c (mark_of root) (FileEntry mark_text)) root v
under_mark custom c root v checked folder =
    let g = is_given custom c root (start_in v c) checked.start in
    let d : Contents = insert c (mark_of root) (FileEntry mark_text) in
    let pages : pages_of v.cursor.log c ≡ pages_of v.cursor.log d = same_log v.cursor.log c d (same_files c root v.cursor.log folder) in
    let records : records_in v c ≡ records_in v d = ap (λ (p : Pages). (log_of p (bytes_of v.cursor.log.size) v.label.start.0).records) pages in
    record {
      log = record {
        knows = subst (λ (p : Pages). IfSome v.cursor.held (λ at. p at ≡ Ok v.cursor.page)) pages checked.knows;
        taken = ap (first_outside custom) (sym records) ∙ g.taken;
        end = checked.end ∙ ap (end_after v.label.start.0) records;
      };
      stand = begun-stand c root g.control g.label;
      start = ap (λ l. record (start_in v c) { records = l }) (sym records);
    }

pub under-mark : (custom : Option Extension) (c c1 : Contents) (root : PathValue) (v : Checked) → IsChecked custom c root v → v.cursor.log.folder ≡ wal_folder root → c1 ≡ all_changed c (beginning root) → Under custom c c1 root v
under-mark custom c c1 root v checked folder is = subst (λ x. Under custom c x root v) (sym (is ∙ begun-contents c root)) (under_mark custom c root v checked folder)

-- ---- a start that was checked before the caller laid its mark

pub record FromStart (custom : Option Extension) (v : Checked) (s : Start) (c : Contents) (root : PathValue) : Type 0 where
  pub log : HasLog custom v c
  pub stand : EndsStand c root
  pub start : start_in v c ≡ s

log_held : (root : PathValue) (log : LogPath) (c d : Contents) → log.folder ≡ wal_folder root → LogStays root c d → SameLog log c d
log_held root log c d is stays number =
    let name : List ℕ = name_of (segment_of log number) in
    ap file_in (sym (stays (below log.folder (name ∷ [])) (subst (λ (f : PathValue). Holds (wal_folder root) (below f (name ∷ []))) (sym is) (holds-below (wal_folder root) (name ∷ [])))))

pub from-start : (custom : Option Extension) (root : PathValue) (v : Checked) (s : Start) (c : Contents) → v.cursor.log.folder ≡ wal_folder root → WasStart custom root v s c → FromStart custom v s c root
from-start custom root v s c folder was =
    let g = is_given custom was.before root s was.passed in
    let pages : pages_of v.cursor.log was.before ≡ pages_of v.cursor.log c = same_log v.cursor.log was.before c (log_held root v.cursor.log was.before c folder was.log) in
    let records : records_in v was.before ≡ records_in v c = ap (λ (p : Pages). (log_of p (bytes_of v.cursor.log.size) v.label.start.0).records) pages in
    let same : s ≡ start_in v c = made_of v was.before s g.records was.is ∙ ap (λ l. record (start_in v was.before) { records = l }) records in
    record {
      log = record {
        knows = subst (λ (p : Pages). IfSome v.cursor.held (λ at. p at ≡ Ok v.cursor.page)) pages was.knows;
        taken = ap (λ (x : Start). first_outside custom x.records) (sym same) ∙ g.taken;
        end = was.is.end ∙ ap (λ (x : Start). end_after x.label.start.0 x.records) same;
      };
      stand = record { control = was.control; label = was.label };
      start = sym same;
    }
