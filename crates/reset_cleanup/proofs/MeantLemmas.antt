-- A reset that isn't refused: none of its changes is, and what stands when they are made.
use Rattle.std.proofs.Common.{◌≡◌, ◌≢◌, ◌++◌, ◌∙◌, ◌+◌, ◌||◌, ℕ, ℤ, false, List, [], ◌∷◌, length, map, Option, None, Some, is_some, option_map, Result, Ok, Err, refl, sym, ap, ap₂, subst, codes, arith}
use Rattle.std.specs.Prelude.{if◌then◌else◌, IfOk, OnOk, is_ok}
use Rattle.std.proofs.lemmas.List.{append-nil, append_cancel_right, drop_all}
use Rattle.std.specs.List.{AllByRecursion, list_any}
use Rattle.layout.specs.Splice.{splice}
use Rattle.cluster_tree.specs.Causes.{given}
use Rattle.cluster_tree.specs.PathValue.{PathValue}
use Rattle.cluster_tree.specs.Contents.{Contents, FileEntry, IsTree, entry_at, is_file}
use Rattle.cluster_tree.specs.Change.{Change, MakesFile, Removes, Writes, all_changed, first_refusal, is_on}
use Rattle.cluster_tree.specs.Folders.{list_refusal, names_in}
use Rattle.cluster_tree.specs.Marks.{marks_of}
use Rattle.cluster_tree.specs.Tree.{bytes_at, bytes_in}
use Rattle.cluster_tree.specs.declared.tree.ChangeCall.{ChangeCall}
use Rattle.cluster_tree.proofs.OrderLemmas.{path_eq-other}
use Rattle.clusters.specs.Marks.{unfinished}
use Rattle.clusters.specs.RootControl.{control_at}
use Rattle.clusters.specs.Roots.{path_in, wal_folder}
use Rattle.control_file.specs.Writing.{control_bytes}
use Rattle.control_file.specs.declared.control.Control.{Control}
use Rattle.marked_runs.specs.Runs.{Runs, ended, marked}
use Rattle.wal_base.specs.Segment.{name_of}
use Rattle.wal_base.specs.declared.segment.Segment.{Segment}
use Rattle.reset_numbers.specs.Behind.{new_segment}
use Rattle.reset_numbers.specs.declared.options.ResetOptions.{ResetOptions}
use Rattle.reset_plan.specs.NewSegment.{segment_bytes}
use Rattle.reset_plan.specs.Plan.{body_changes, plan_changes}
use Rattle.reset_plan.specs.Prepared.{IsDry, reset_by}
use Rattle.reset_plan.specs.Reset.{Reset, changed_to, changes_of, control_after, gone_in, gone_refusal, in_folder, not_clean, reset_known, reset_of, reset_to, segment_found, wal_refusal}
use Rattle.reset_plan.specs.ResetFaults.{folder_fault, told_by}
use Rattle.reset_plan.specs.declared.fault.ResetFault.{ResetFault}
use Rattle.reset_plan.specs.declared.fault.ResetFault.TheVariants as fault
use Rattle.reset_plan.specs.declared.plan.Plan.{Plan}
use Rattle.reset_plan.specs.declared.plan.Prepared.{Prepared}
use Rattle.reset_plan.specs.declared.plan.Prepared.TheVariants.{Ready}
use Rattle.reset_cleanup.specs.Resetting.{LogIsReset}
use Rattle.reset_cleanup.proofs.AfterLemmas.{LeftAt, left-at, reset_body, reset_changes}
use Rattle.reset_cleanup.proofs.FoundLemmas.{given-ok, unless-ok}
use Rattle.reset_cleanup.proofs.ResetLemmas.{dry-none, one-reset}
use Rattle.reset_cleanup.proofs.TruthLemmas.{control-there, found, map-none, told-ok, unmarked}
use Rattle.reset_cleanup.proofs.UnderLemmas.{IsUnder, all-map, beside-control, control_path, control_path-is, under-beside}
use Rattle.reset_cleanup.proofs.UnrefusedLemmas.{Found, mark_path, new-under, reset-unrefused}

-- those that go
abbrev gone_at : Contents → PathValue → List PathValue
gone_at c root = gone_in c (wal_folder root) (names_in c (wal_folder root))

-- what was seen where it isn't refused before its state is asked for
record Seen (c : Contents) (root : PathValue) (options : ResetOptions) (now : ℤ) (reset : Reset) : Type 0 where
  old : Control
  segment : Segment
  mark : entry_at c (marks_of root).reset ≡ None
  was : control_at c root ≡ Ok old
  wal : list_refusal (entry_at c (wal_folder root)) ≡ None
  behind : new_segment options old (names_in c (wal_folder root)) ≡ Some segment
  next : reset_to c root options old (control_after options now segment old) segment ≡ Ok reset

segment_ok : (wal : PathValue) (o : Option Segment) (segment : Segment) → segment_found wal o ≡ Ok segment → o ≡ Some segment
segment_ok wal None segment e = absurd (cc e)
segment_ok wal (Some found) segment e = let is : found ≡ segment = cc e in ap (λ x. Some x) is

seen : (c : Contents) (root : PathValue) (options : ResetOptions) (now : ℤ) (reset : Reset) → reset_of c root options now ≡ Ok reset → Seen c root options now reset
unfolding reset_known
seen c root options now reset is =
    let a = unless-ok (option_map fault.Cluster (unfinished c root)) (given (told_by (control_at c root)) (λ old. reset_known c root options now old)) reset is in
    let b = given-ok (told_by (control_at c root)) (λ old. reset_known c root options now old) reset a.1 in
    let d = unless-ok (wal_refusal c (wal_folder root)) _ reset b.next in
    let s = given-ok (segment_found (wal_folder root) (new_segment options b.read (names_in c (wal_folder root)))) _ reset d.1 in
    record {
      old = b.read;
      segment = s.read;
      mark = unmarked c root (map-none fault.Cluster (unfinished c root) a.0);
      was = told-ok (control_at c root) b.read b.is;
      wal = map-none (folder_fault (wal_folder root)) (list_refusal (entry_at c (wal_folder root))) d.0;
      behind = segment_ok (wal_folder root) (new_segment options b.read (names_in c (wal_folder root))) s.read s.is;
      next = s.next;
    }

-- the answer by whether the run is dry
abbrev by_dry : Option (Unit {0}) → Reset → Result Reset ResetFault → Result Reset ResetFault
by_dry dry reset other = if is_some dry then Ok reset else other

-- ---- a dry run

dry_is : (c : Contents) (root : PathValue) (options : ResetOptions) (now : ℤ) (reset : Reset) (u : Unit {0}) → options.dry ≡ Some u → Seen c root options now reset → reset.changes ≡ []
unfolding reset_to
dry_is c root options now reset u dry s =
    let control = control_after options now s.segment s.old in
    let none : Reset = record { control = control; changes = [] } in
    ap (λ (r : Reset). r.changes) (one-reset reset none (reset_to c root options s.old control s.segment) s.next (ap (λ o. by_dry o none (changed_to c root options s.old control s.segment)) dry))

-- ---- one that isn't

record Wet (c : Contents) (root : PathValue) (control : Control) (segment : Segment) (reset : Reset) : Type 0 where
  all : Found c root (gone_at c root) (name_of segment)
  is : record { control = control; changes = changes_of root (gone_at c root) control segment } ≡ reset

wet_is : (c : Contents) (root : PathValue) (options : ResetOptions) (now : ℤ) (reset : Reset) → IsTree c → options.dry ≡ None → (s : Seen c root options now reset) → Wet c root (control_after options now s.segment s.old) s.segment reset
unfolding reset_to
wet_is c root options now reset tree dry s =
    let control = control_after options now s.segment s.old in
    let none : Reset = record { control = control; changes = [] } in
    let answer : changed_to c root options s.old control s.segment ≡ Ok reset =
    sym (ap (λ o. by_dry o none (changed_to c root options s.old control s.segment)) dry) ∙ s.next in
    let f = unless-ok (not_clean root s.old options.force) _ reset answer in
    let g = unless-ok (gone_refusal c (wal_folder root) (names_in c (wal_folder root))) _ reset f.1 in
    record {
      all = found c root s.segment tree s.mark (ap is_file (control-there c root s.old s.was).file) s.wal g.0;
      is = one-reset (record { control = control; changes = changes_of root (gone_at c root) control s.segment }) reset _ refl g.1;
    }

changes_are : (root : PathValue) (gone : List PathValue) (control : Control) (segment : Segment) → changes_of root gone control segment ≡ reset_changes root gone (name_of segment) (codes "pg_resetwal 1\n") (control_bytes control) (segment_bytes control segment)
unfolding changes_of path_in
changes_are root gone control segment = refl

wet_changes : (c : Contents) (root : PathValue) (control : Control) (segment : Segment) (reset : Reset) → Wet c root control segment reset
    → reset.changes ≡ reset_changes root (gone_at c root) (name_of segment) (codes "pg_resetwal 1\n") (control_bytes control) (segment_bytes control segment)
wet_changes c root control segment reset w = ap (λ (r : Reset). r.changes) (sym w.is) ∙ changes_are root (gone_at c root) control segment

-- ---- none of its changes is refused in its turn

never-refused : (c : Contents) (root : PathValue) (options : ResetOptions) (now : ℤ) (reset : Reset) → IsTree c → reset_of c root options now ≡ Ok reset → first_refusal c reset.changes ≡ None
never-refused c root options now reset tree is =
    let s = seen c root options now reset is in
    elim options.dry as (λ (o : Option (Unit {0})). options.dry ≡ o → first_refusal c reset.changes ≡ None) [
      | None ↦ λ dry.
          let control = control_after options now s.segment s.old in
          let w = wet_is c root options now reset tree dry s in
          ap (λ l. first_refusal c l) (wet_changes c root control s.segment reset w)
          ∙ reset-unrefused c root (gone_at c root) (name_of s.segment) (codes "pg_resetwal 1\n") (control_bytes control) (segment_bytes control s.segment) w.all
      | Some u ↦ λ dry. ap (λ l. first_refusal c l) (dry_is c root options now reset u dry s)
    ] refl

-- the same of one that was made ready, from a tree that had only been read
pub unrefused-by : (c e : Contents) (root : PathValue) (options : ResetOptions) (now : ℤ) (p : Prepared) → IsTree c → reset_of c root options now ≡ Ok (reset_by p) → e ≡ c → first_refusal e (reset_by p).changes ≡ None
unrefused-by c e root options now p tree meant same = ap (λ x. first_refusal x (reset_by p).changes) same ∙ never-refused c root options now (reset_by p) tree meant

-- ---- what stands when they are made

-- bytes in the place of as many
splice_whole : (old bytes : List ℕ) → length old ≡ length bytes → splice old 0 bytes ≡ bytes
unfolding splice
splice_whole old bytes same =
    ap (λ l. bytes ++ l) (drop_all (0 + length bytes) old (omega (arith, same))) ∙ append-nil bytes

pub after-reset : (c d : Contents) (root : PathValue) (options : ResetOptions) (now : ℤ) (reset : Reset) (control : Control) → IsTree c → options.dry ≡ None → reset_of c root options now ≡ Ok reset
    → control ≡ reset.control → length (control_bytes reset.control) ≡ 8192 → d ≡ all_changed c reset.changes → LogIsReset c d root options now control
after-reset c d root options now reset control tree dry meant told size left =
    let s = seen c root options now reset meant in
    let new = control_after options now s.segment s.old in
    let w = wet_is c root options now reset tree dry s in
    let says : reset.control ≡ new = ap (λ (r : Reset). r.control) (sym w.is) in
    let path = control_path root in
    let there = control-there c root s.old s.was in
    let was : bytes_at c path ≡ there.bytes = ap bytes_in there.file in
    let whole : splice (bytes_at c path) 0 (control_bytes new) ≡ control_bytes new =
    ap (λ l. splice l 0 (control_bytes new)) was ∙ splice_whole there.bytes (control_bytes new) (there.size ∙ sym (ap (λ k. length (control_bytes k)) (sym says) ∙ size)) in
    let at : LeftAt c d root (gone_at c root) (name_of s.segment) (control_bytes new) (segment_bytes new s.segment) =
    subst (λ x. LeftAt c x root (gone_at c root) (name_of s.segment) (control_bytes new) (segment_bytes new s.segment))
    (sym (left ∙ ap (all_changed c) (wet_changes c root new s.segment reset w)))
    (left-at c root (gone_at c root) (name_of s.segment) (codes "pg_resetwal 1\n") (control_bytes new) (segment_bytes new s.segment) w.all) in
    subst (λ k. LogIsReset c d root options now k) (sym (told ∙ says)) (record {
      old = s.old;
      segment = s.segment;
      was = s.was;
      behind = s.behind;
      is = refl;
      says = ap (λ p. entry_at d p) (control_path-is root) ∙ at.says ∙ ap (λ l. Some (FileEntry l)) whole;
      log = at.log;
      gone = at.away;
      unmarked = at.unmarked;
      others = λ p off off_control off_new. at.others p off (λ e. off_control (e ∙ sym (control_path-is root))) off_new;
    })

pub not_dry : (c : Contents) (root : PathValue) (options : ResetOptions) (now : ℤ) (p : Prepared) → IsTree c → options.dry ≡ None → reset_of c root options now ≡ Ok (reset_by p) → IsDry p → ⊥
not_dry c root options now p tree dry meant is =
    let s = seen c root options now (reset_by p) meant in
    let control = control_after options now s.segment s.old in
    let w = wet_is c root options now (reset_by p) tree dry s in
    let e : [] ≡ reset_changes root (gone_at c root) (name_of s.segment) (codes "pg_resetwal 1\n") (control_bytes control) (segment_bytes control s.segment) =
    sym (dry-none p is) ∙ wet_changes c root control s.segment (reset_by p) w in
    cc e

pub after-prepared : (c e d : Contents) (k l : List ChangeCall) (root : PathValue) (options : ResetOptions) (now : ℤ) (p : Prepared) (result : Result Control ResetFault) → IsTree c → options.dry ≡ None
    → reset_of c root options now ≡ Ok (reset_by p) → IfOk result (λ control. control ≡ (reset_by p).control) → OnOk result ((IsDry p → ⊥) → length (control_bytes (reset_by p).control) ≡ 8192)
    → e ≡ c → Runs (reset_by p).changes k l e d (is_ok result) → IfOk result (LogIsReset c d root options now)
after-prepared c e d k l root options now p (Ok control) tree dry meant told size same ran =
    after-reset c d root options now (reset_by p) control tree dry meant told (size (not_dry c root options now p tree dry meant)) (ran.after refl ∙ ap (λ x. all_changed x (reset_by p).changes) same)
after-prepared c e d k l root options now p (Err f) tree dry meant told size same ran = tt

-- ---- its mark is no path of what is changed under it

same_mark : (m n : PathValue) (xs ys : List Change) → MakesFile m ∷ xs ≡ MakesFile n ∷ ys → m ≡ n
same_mark m n xs ys e = cc

same_rest : (m n : PathValue) (text : List ℕ) (xs ys : List Change) → marked m text xs ≡ marked n text ys → xs ++ ended m ≡ ys ++ ended n
same_rest m n text xs ys e = cc

same_body : (m n : PathValue) (text : List ℕ) (xs ys : List Change) → marked m text xs ≡ marked n text ys → m ≡ n → xs ≡ ys
same_body m n text xs ys e same = append_cancel_right xs ys (ended n) (ap (λ p. xs ++ ended p) (sym same) ∙ same_rest m n text xs ys e)

removals_off : (mark : PathValue) (gone : List PathValue) (more : List Change) → AllByRecursion (λ p. p ≢ mark) gone → list_any (is_on mark) more ≡ false → list_any (is_on mark) (map Removes gone ++ more) ≡ false
removals_off mark [] more off rest = rest
removals_off mark (p ∷ gone) more off rest = ap₂ (λ a b. a || b) (path_eq-other mark p (λ e. off.0 (sym e))) (removals_off mark gone more off.1 rest)

body_off : (root : PathValue) (gone : List PathValue) (name bytes page : List ℕ) → AllByRecursion (IsUnder (wal_folder root)) gone → list_any (is_on (mark_path root)) (reset_body root gone name bytes page) ≡ false
body_off root gone name bytes page under =
    let mark = mark_path root in
    let new = in_folder (wal_folder root) name in
    let off_new = path_eq-other mark new (λ e. under-beside root new (codes "pg_resetwal.unfinished") (new-under root name) (sym e)) in
    ap₂ (λ a b. a || b) (path_eq-other mark (control_path root) (beside-control root (codes "pg_resetwal.unfinished")))
    (removals_off mark gone (MakesFile new ∷ Writes new 0 page ∷ []) (all-map (IsUnder (wal_folder root)) (λ p. p ≢ mark) (λ p u. under-beside root p (codes "pg_resetwal.unfinished") u) gone under)
    (ap (λ a. a || (a || false)) off_new))

-- of a reset with changes
pub record IsReadyOf (root : PathValue) (options : ResetOptions) (plan : Plan) : Type 0 where
  pub wet : options.dry ≡ None
  pub mark : plan.mark ≡ (marks_of root).reset
  pub off : list_any (is_on plan.mark) (body_changes plan.body) ≡ false

ready_wet : (c : Contents) (root : PathValue) (options : ResetOptions) (now : ℤ) (plan : Plan) → Seen c root options now (reset_by (Ready plan)) → options.dry ≡ None
ready_wet c root options now plan s =
    elim options.dry as (λ (o : Option (Unit {0})). options.dry ≡ o → options.dry ≡ None) [
      | None ↦ λ dry. dry
      | Some u ↦ λ dry. let none : plan_changes plan ≡ [] = dry_is c root options now (reset_by (Ready plan)) u dry s in absurd (cc none)
    ] refl

pub ready-of : (c : Contents) (root : PathValue) (options : ResetOptions) (now : ℤ) (plan : Plan) → IsTree c → reset_of c root options now ≡ Ok (reset_by (Ready plan)) → IsReadyOf root options plan
ready-of c root options now plan tree meant =
    let s = seen c root options now (reset_by (Ready plan)) meant in
    let wet = ready_wet c root options now plan s in
    let w = wet_is c root options now (reset_by (Ready plan)) tree wet s in
    let control = control_after options now s.segment s.old in
    let body = reset_body root (gone_at c root) (name_of s.segment) (control_bytes control) (segment_bytes control s.segment) in
    let same : marked plan.mark (codes "pg_resetwal 1\n") (body_changes plan.body) ≡ marked (mark_path root) (codes "pg_resetwal 1\n") body = wet_changes c root control s.segment (reset_by (Ready plan)) w in
    let mark = same_mark plan.mark (mark_path root) _ _ same in
    record {
      wet = wet;
      mark = mark;
      off = ap₂ (λ m l. list_any (is_on m) l) mark (same_body plan.mark (mark_path root) (codes "pg_resetwal 1\n") (body_changes plan.body) body same mark)
          ∙ body_off root (gone_at c root) (name_of s.segment) (control_bytes control) (segment_bytes control s.segment) w.all.under;
    }
