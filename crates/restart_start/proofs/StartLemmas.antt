-- What a replay that can be started again begins from: what passed, and what refuses it.
use Rattle.std.proofs.Common.{◌≡◌, ◌⊎◌, ◌<◌, List, [], ◌∷◌, Option, None, Some, Result, Ok, Err, length, codes, inl, inr, refl, sym, ap, ap₂, subst, ◌∙◌, arith}
use Rattle.std.proofs.lemmas.List.{length-append}
use Rattle.std.specs.Prelude.{option_map}
use Rattle.backup_label.specs.declared.reading.LabelPlaces.{LabelPlaces}
use Rattle.block_refs.specs.declared.names.BlockName.{BlockName}
use Rattle.cluster_tree.specs.Causes.{first_of, given, unless}
use Rattle.cluster_tree.specs.Contents.{Contents}
use Rattle.cluster_tree.specs.Marks.{marks_of}
use Rattle.cluster_tree.specs.PathValue.{PathValue}
use Rattle.clusters.specs.Marks.{unfinished}
use Rattle.clusters.specs.RootControl.{control_at}
use Rattle.clusters.specs.RootHistory.{history_at}
use Rattle.clusters.specs.Roots.{path_in}
use Rattle.control_file.specs.Reading.{timeline_of}
use Rattle.control_file.specs.declared.control.Control.{Control}
use Rattle.file_walk.specs.Faults as walks
use Rattle.file_walk.specs.declared.fault.WalkFault.{WalkFault}
use Rattle.first_effects.specs.First.{IsLeastChanged}
use Rattle.replay_areas.specs.Listing.{areas_listed}
use Rattle.replay_list.specs.declared.listed.Listed.{Listed}
use Rattle.replay_profile.specs.Profile.{first_outside}
use Rattle.replay_start.specs.Checked.{IsStart, Start, checksums_on, from_control, from_label, in_log, label_at, log_with, no_hints, start_of}
use Rattle.replay_start.specs.Faults.{of_profile, told_by}
use Rattle.replay_start.specs.Faults as replays
use Rattle.replay_start.specs.Scanned.{log_refusal}
use Rattle.replay_start.specs.declared.checked.Checked.{Checked}
use Rattle.replay_start.specs.declared.fault.ReplayFault.{ReplayFault}
use Rattle.replay_start.specs.declared.fault.ReplayFault.TheVariants as replay
use Rattle.restart_start.specs.Beginning.{IsBegun, IsFree, WhyNot, Changed, Refused, Wrong}
use Rattle.restart_start.specs.Gathered.{IsRefused, splits_of}
use Rattle.restart_start.specs.Records.{records_from}
use Rattle.restart_start.specs.declared.fault.RestartFault.{RestartFault}
use Rattle.restart_start.specs.declared.fault.RestartFault.TheVariants as fault
use Rattle.restart_start.specs.declared.starting.Beginning.{Beginning}
use Rattle.rmgr_hooks.specs.Custom.{Extension}
use Rattle.wal_base.specs.Segment.{bytes_of}
use Rattle.wal_base.specs.declared.lsn.Lsn.{Lsn}
use Rattle.wal_pages.specs.declared.log_path.LogPath.{LogPath}
use Rattle.wal_records.specs.Further.{pages_of}
use Rattle.wal_records.specs.Log.{log_of}
use Rattle.wal_records.specs.Reading.{LogRecord}

-- ---- points that don't refuse

unless_ok : {A E : Type 0} (o : Option E) (answer : Result A E) (v : A) → unless o answer ≡ Ok v → (o ≡ None) × (answer ≡ Ok v)
unless_ok None answer v e = (refl, e)
unless_ok (Some f) answer v e = absurd (cc e)

given_ok : {A B E : Type 0} (r : Result A E) (f : A → Result B E) (v : B) → given r f ≡ Ok v → (x : A) × (r ≡ Ok x) × (f x ≡ Ok v)
given_ok (Ok x) f v e = (x, refl, e)
given_ok (Err x) f v e = absurd (cc e)

first_none : {E : Type 0} (o : Option E) (points : List (Option E)) → first_of (o ∷ points) ≡ None → o ≡ None
unfolding first_of
first_none None points e = refl
first_none (Some x) points e = absurd (cc e)

map_none : {A B : Type 0} (f : A → B) (o : Option A) → option_map f o ≡ None → o ≡ None
map_none f None e = refl
map_none f (Some x) e = absurd (cc e)

-- ---- a log that passed: its records are those of its files, and each is taken

record IsOfLog (custom : Option Extension) (c : Contents) (s : Start) : Type 0 where
  records : s.records ≡ (log_of (pages_of s.log c) (bytes_of s.log.size) s.label.start.0).records
  taken : first_outside custom s.records ≡ None

none_outside : (custom : Option Extension) (root : PathValue) (control : Control) (label : LabelPlaces) (records : List LogRecord) → log_refusal custom root control label records ≡ None → first_outside custom records ≡ None
unfolding log_refusal
none_outside custom root control label records e = map_none of_profile (first_outside custom records) (first_none (option_map of_profile (first_outside custom records)) _ e)

of_log : (custom : Option Extension) (c : Contents) (root : PathValue) (control : Control) (label : LabelPlaces) (o : Option LogPath) (s : Start) → in_log custom c root control label o ≡ Ok s → IsOfLog custom c s
of_log custom c root control label None s e = absurd (cc e)
of_log custom c root control label (Some log) s e =
    let records = (log_of (pages_of log c) (bytes_of log.size) label.start.0).records in
    let all : Start = record { control = control; label = label; log = log; records = records } in
    let w = unless_ok (log_refusal custom root control label records) (Ok all) s e in
    let same : all ≡ s = cc w.1 in
    subst (λ (x : Start). IsOfLog custom c x) same (record { records = refl; taken = none_outside custom root control label records w.0 })

is_of_log : (custom : Option Extension) (c : Contents) (root : PathValue) (s : Start) → start_of custom c root ≡ Ok s → IsOfLog custom c s
unfolding start_of from_control from_label
is_of_log custom c root s is =
    let a = unless_ok (option_map replay.Cluster (unfinished c root)) (given (told_by (control_at c root)) (from_control custom c root)) s is in
    let (control, at, next) = given_ok (told_by (control_at c root)) (from_control custom c root) s a.1 in
    let d = unless_ok (first_of (checksums_on root control ∷ no_hints root control ∷ [])) (given (label_at c root) (from_label custom c root control)) s next in
    let (label, said, then) = given_ok (label_at c root) (from_label custom c root control) s d.1 in
    let (spans, told, last) = given_ok (told_by (history_at c root (timeline_of control))) (λ spans. in_log custom c root control label (log_with root control spans)) s then in
    of_log custom c root control label (log_with root control spans) s last

-- what was checked has those records
same_records : (c : Contents) (s : Start) (v : Checked) → IsStart s v → s.records ≡ (log_of (pages_of s.log c) (bytes_of s.log.size) s.label.start.0).records → records_from v c ≡ s.records
same_records c s v is records =
    ap₂ (λ (l : LogPath) (p : LabelPlaces). (log_of (pages_of l c) (bytes_of l.size) p.start.0).records) is.log is.label ∙ sym records

-- and is this start still where only its cursor moved on
pub still : (s : Start) (v u : Checked) → IsStart s v → u.control ≡ v.control → u.label ≡ v.label → u.cursor.log ≡ v.cursor.log → u.end ≡ v.end → IsStart s u
still s v u is control label log end = record {
  control = control ∙ is.control;
  label = label ∙ is.label;
  log = log ∙ is.log;
  end = ap (λ (p : Lsn). p.0) end ∙ is.end;
}

-- ---- what is begun from, or what refuses

module _ (custom : Option Extension) (c : Contents) (root : PathValue) where
  pub refused : (e : ReplayFault) → replays.IsFree e ⊎ (start_of custom c root ≡ Err e) → IsFree (fault.Replay e) ⊎ WhyNot custom c root (fault.Replay e)
  refused e (inl free) = inl free
  refused e (inr is) = inr (Refused e is)

  module _ (v : Checked) (checked : (s : Start) × (start_of custom c root ≡ Ok s) × IsStart s v) where
    pub wrong : (e : WalkFault) → walks.IsFree e ⊎ (areas_listed c root ≡ Err e) → IsFree (fault.Walk e) ⊎ WhyNot custom c root (fault.Walk e)
    wrong e (inl free) = inl free
    wrong e (inr is) = inr (Wrong checked.0 e checked.1 is)

    records_are : records_from v c ≡ checked.0.records
    records_are = same_records c checked.0 v checked.2 (is_of_log custom c root checked.0 checked.1).records

    -- each record was taken before
    pub read-again : (e : ReplayFault) → IsRefused custom (records_from v c) e → IsFree (fault.Replay e) ⊎ WhyNot custom c root (fault.Replay e)
    read-again e (inl free) = inl free
    read-again e (inr is) =
        let none : first_outside custom (records_from v c) ≡ None = ap (first_outside custom) records_are ∙ (is_of_log custom c root checked.0 checked.1).taken in
        absurd (cc (sym (ap (option_map of_profile) none) ∙ is))

    module _ (listed : List Listed) (lists : areas_listed c root ≡ Ok listed) where
      pub changed : (name : BlockName) → IsLeastChanged custom (splits_of (records_from v c)) (Some name) → WhyNot custom c root (fault.NotRestartable name)
      changed name least = Changed checked.0 listed name checked.1 lists (subst (λ rs. IsLeastChanged custom (splits_of rs) (Some name)) records_are least)

      pub begun : (begun : Beginning) → begun.listed ≡ listed → IsStart checked.0 begun.checked → IsLeastChanged custom (splits_of (records_from v c)) None → IsBegun custom c root begun
      begun b is start none = record {
        start = checked.0;
        may = record {
          passes = checked.1;
          lists = subst (λ l. areas_listed c root ≡ Ok l) (sym is) lists;
          anew = subst (λ rs. IsLeastChanged custom (splits_of rs) None) records_are none;
        };
        is = start;
      }

-- ---- its own mark

own-at : (root : PathValue) → path_in root (codes "pg_walreplay.unfinished") ≡ (marks_of root).replay
unfolding path_in
own-at root = refl

pub own-is : (root mark : PathValue) → mark ≡ path_in root (codes "pg_walreplay.unfinished") → mark ≡ (marks_of root).replay
own-is root mark is = is ∙ own-at root

pub own-deep : (root mark : PathValue) → mark ≡ path_in root (codes "pg_walreplay.unfinished") → 0 < length mark.parts
own-deep root mark is = omega (arith, ap (λ (p : PathValue). length p.parts) (is ∙ own-at root), length-append root.parts (codes "pg_walreplay.unfinished" ∷ []))

-- what is known of the fault that a callee gave holds of the one that is handed on
pub handed : {A : Type 0} (P : Result A RestartFault → Type 0) (r : Result A RestartFault) (e : RestartFault) → ((f : RestartFault) × (r ≡ Err f) × (f ≡ e)) → P (Err e) → P r
handed P r e (f, is, same) h = subst P (sym (is ∙ ap Err same)) h
