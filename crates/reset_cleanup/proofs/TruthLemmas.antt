-- None of the changes of a reset that isn't refused is refused in its turn.
use Rattle.std.proofs.Common.{◌≡◌, ℕ, ℤ, ◌/◌, ◌%◌, ◌==◌, ◌&&◌, ◌||◌, Bool, true, false, cond, List, [], ◌∷◌, ◌++◌, length, map, filter, bytes_eq, Option, None, Some, is_some, option_map, Result, Ok, Err, refl, sym, ap, ap₂, ◌∙◌, subst, arith, true≢false, codes, length-append}
use Rattle.std.specs.Prelude.{if◌then◌else◌}
use Rattle.std.proofs.lemmas.Bool.Decides.{Decides-eqb}
use Rattle.std.proofs.lemmas.List.{take_all, drop_all}
use Rattle.std.proofs.lemmas.List.Folds.{list_all-append}
use Rattle.std.specs.Cmp.Lexicographic.{bytes_decides}
use Rattle.std.specs.FinMap.{get}
use Rattle.std.specs.List.{list_all, list_any}
use Rattle.archive_names.specs.Cleanup.{ends_segment, is_segment}
use Rattle.cluster_tree.specs.Causes.{given, unless}
use Rattle.cluster_tree.specs.PathValue.{PathValue}
use Rattle.cluster_tree.specs.PathOrder.{path_eq}
use Rattle.cluster_tree.specs.Contents.{Contents, Entry, FolderEntry, FileEntry, LinkEntry, IsTree, entry_at, is_file}
use Rattle.cluster_tree.specs.Folders.{list_refusal, names_in}
use Rattle.cluster_tree.specs.Marks.{MarkPaths, is_there, marks_of}
use Rattle.cluster_tree.specs.Tree.{file_of}
use Rattle.cluster_tree.specs.declared.tree.TreeFault.{TreeFault}
use Rattle.cluster_tree.proofs.NamesLemmas.{names_listing}
use Rattle.cluster_tree.proofs.OrderLemmas.{path_eq-own}
use Rattle.clusters.specs.Marks.{unfinished, with_mark}
use Rattle.clusters.specs.RootControl.{at_root, control_at, control_in}
use Rattle.clusters.specs.Roots.{path_in, wal_folder}
use Rattle.clusters.specs.declared.fault.ClusterFault.{ClusterFault}
use Rattle.clusters.specs.declared.fault.ClusterFault.TheVariants as cluster
use Rattle.control_file.specs.Admission.{control_of}
use Rattle.control_file.specs.declared.fault.ControlFault.{ControlFault}
use Rattle.control_file.specs.declared.fault.ControlFault.TheVariants.{Size}
use Rattle.control_file.specs.declared.control.Control.{Control}
use Rattle.marked_runs.specs.Moments.{IsMarked}
use Rattle.wal_base.specs.Hex.{hex8, is_long_name, is_upper_hex}
use Rattle.wal_base.specs.Segment.{bytes_of, name_of, segments_per_high}
use Rattle.wal_base.specs.declared.segment.Segment.{Segment}
use Rattle.wal_base.proofs.HexDigits.{length-hex_digits, upper-hex_digits}
use Rattle.reset_numbers.specs.Names.{is_status}
use Rattle.reset_numbers.specs.declared.options.ResetOptions.{ResetOptions}
use Rattle.reset_plan.specs.Reset.{gone_in, gone_refusal, in_folder, kind_refusal, names_at, reset_known, reset_of, status_folder, status_refusal}
use Rattle.reset_plan.specs.ResetFaults.{told_by}
use Rattle.reset_plan.specs.declared.fault.ResetFault.TheVariants as fault
use Rattle.reset_cleanup.specs.Stopping.{standing}
use Rattle.reset_cleanup.proofs.FoundLemmas.{are-files, both-apart, first_of-head, names-apart, sorted-kept, sorted-kept_at, stand-kept, stand-kept_at}
use Rattle.reset_plan.proofs.ListingLemmas.{listed_folder}
use Rattle.reset_cleanup.proofs.UnderLemmas.{IsUnder, all-both, control_path, control_path-is, under-names, under-statuses}
use Rattle.reset_cleanup.proofs.UnrefusedLemmas.{Found, or_root-more}

pub map-none : {A B : Type 0} (f : A → B) (o : Option A) → option_map f o ≡ None → o ≡ None
map-none f None e = refl
map-none f (Some x) e = absurd (cc e)

-- ---- no mark

mark_none : (marks : MarkPaths) (a b d : Bool) → with_mark marks (cond a (Some 0) (cond b (Some 1) (cond d (Some 2) None))) ≡ None → d ≡ false
mark_none marks true b d e = absurd (cc e)
mark_none marks false true d e = absurd (cc e)
mark_none marks false false true e = absurd (cc e)
mark_none marks false false false e = refl

none_there : (o : Option Entry) → is_some o ≡ false → o ≡ None
none_there None e = refl
none_there (Some entry) e = absurd (true≢false e)

pub unmarked : (c : Contents) (root : PathValue) → unfinished c root ≡ None → entry_at c (marks_of root).reset ≡ None
unfolding unfinished
unmarked c root none =
    none_there (entry_at c (marks_of root).reset) (mark_none (marks_of root) (is_there c (marks_of root).rewind) (is_there c (marks_of root).replay) (is_there c (marks_of root).reset) none)

-- and where that of a reset stands, the first that does refuses
first_standing : (marks : MarkPaths) (a b d : Bool) → d ≡ true → with_mark marks (cond a (Some 0) (cond b (Some 1) (cond d (Some 2) None))) ≡ Some (cluster.Unfinished (cond a marks.rewind (cond b marks.replay marks.reset)))
first_standing marks true b d e = refl
first_standing marks false true d e = refl
first_standing marks false false true e = refl
first_standing marks false false false e = absurd (true≢false (sym e))

unfinished_at : (c : Contents) (root : PathValue) → IsMarked (marks_of root).reset c → unfinished c root ≡ Some (cluster.Unfinished (standing c (marks_of root)))
unfolding unfinished
unfinished_at c root marked = first_standing (marks_of root) (is_there c (marks_of root).rewind) (is_there c (marks_of root).replay) (is_there c (marks_of root).reset) marked

pub marked-refused : (c : Contents) (root : PathValue) (options : ResetOptions) (now : ℤ) → IsMarked (marks_of root).reset c → reset_of c root options now ≡ Err (fault.Cluster (cluster.Unfinished (standing c (marks_of root))))
marked-refused c root options now marked =
    ap (λ o. unless (option_map fault.Cluster o) (given (told_by (control_at c root)) (λ old. reset_known c root options now old))) (unfinished_at c root marked)

-- ---- the control file

pub told-ok : (r : Result Control ClusterFault) (v : Control) → told_by r ≡ Ok v → r ≡ Ok v
told-ok (Ok x) v e = let is : x ≡ v = cc e in ap (λ y. Ok y) is
told-ok (Err f) v e = absurd (cc e)

read_file : (root : PathValue) (r : Result (List ℕ) TreeFault) (v : Control) → control_in root r ≡ Ok v → (bytes : List ℕ) × (r ≡ Ok bytes)
read_file root (Ok bytes) v e = (bytes, refl)
read_file root (Err f) v e = absurd (cc e)

file_is : (o : Option Entry) (bytes : List ℕ) → file_of o ≡ Ok bytes → o ≡ Some (FileEntry bytes)
file_is None bytes e = absurd (cc e)
file_is (Some (FolderEntry bad)) bytes e = absurd (cc e)
file_is (Some (FileEntry b)) bytes e = let same : b ≡ bytes = cc e in ap (λ x. Some (FileEntry x)) same
file_is (Some LinkEntry) bytes e = absurd (cc e)

sized : (b : Bool) (root : PathValue) (bytes : List ℕ) (next : Result Control ControlFault) (v : Control) → at_root root (if b then next else Err (Size (length bytes))) ≡ Ok v → b ≡ true
sized true root bytes next v e = refl
sized false root bytes next v e = absurd (cc e)

size_of : (root : PathValue) (bytes : List ℕ) (v : Control) → at_root root (control_of bytes) ≡ Ok v → length bytes ≡ 8192
unfolding control_of
size_of root bytes v e = (Decides-eqb (length bytes) 8192).0 (sized (length bytes == 8192) root bytes _ v e)

-- a control file that says something is a file of 8192 bytes
pub record IsControlAt (c : Contents) (path : PathValue) : Type 0 where
  pub bytes : List ℕ
  pub file : entry_at c path ≡ Some (FileEntry bytes)
  pub size : length bytes ≡ 8192

control_there : (c : Contents) (root : PathValue) (v : Control) → control_at c root ≡ Ok v → IsControlAt c (path_in root (codes "global/pg_control"))
unfolding control_at
control_there c root v is =
    let path = path_in root (codes "global/pg_control") in
    let (bytes, file) = read_file root (file_of (entry_at c path)) v is in
    record {
      bytes = bytes;
      file = file_is (entry_at c path) bytes file;
      size = size_of root bytes v (sym (ap (control_in root) file) ∙ is);
    }

pub control-there : (c : Contents) (root : PathValue) (v : Control) → control_at c root ≡ Ok v → IsControlAt c (control_path root)
control-there c root v is = subst (λ p. IsControlAt c p) (control_path-is root) (control_there c root v is)

-- ---- the name of the new segment is that of a segment

name_long : (a b d : ℕ) → is_long_name (hex8 a ++ hex8 b ++ hex8 d) ≡ true
name_long a b d =
    let size : length (hex8 a ++ hex8 b ++ hex8 d) ≡ 24 = omega (arith, length-append (hex8 a ++ hex8 b) (hex8 d), length-append (hex8 a) (hex8 b), length-hex_digits 8 a, length-hex_digits 8 b, length-hex_digits 8 d) in
    let upper : list_all is_upper_hex (hex8 a ++ hex8 b ++ hex8 d) ≡ true =
    list_all-append is_upper_hex (hex8 a ++ hex8 b) (hex8 d)
    ∙ ap₂ (λ x y. x && y) (list_all-append is_upper_hex (hex8 a) (hex8 b) ∙ ap₂ (λ x y. x && y) (upper-hex_digits 8 a) (upper-hex_digits 8 b)) (upper-hex_digits 8 d) in
    ap₂ (λ n u. (n == 24) && u) size upper

long_segment : (name : List ℕ) → is_long_name name ≡ true → length name ≡ 24 → is_segment name ≡ true
long_segment name long size =
    ap₂ (λ a b. is_long_name a && ends_segment b) (take_all 24 name (omega (arith, size))) (drop_all 24 name (omega (arith, size)))
    ∙ ap (λ b. b && true) long

new_name : (segment : Segment) → is_segment (name_of segment) ≡ true
new_name segment =
    let high : ℕ = segment.number / segments_per_high (bytes_of segment.size) in
    let low : ℕ = segment.number % segments_per_high (bytes_of segment.size) in
    let long : is_long_name (name_of segment) ≡ true = name_long segment.tli high low in
    let size : length (name_of segment) ≡ 24 = omega (arith, length-append (hex8 segment.tli ++ hex8 high) (hex8 low), length-append (hex8 segment.tli) (hex8 high), length-hex_digits 8 segment.tli, length-hex_digits 8 high, length-hex_digits 8 low) in
    long_segment (name_of segment) long size

-- ---- where no file of its name goes, none stands there

or_right : (a b : Bool) → (a || b) ≡ false → (a ≡ false) × (b ≡ false)
or_right true b e = absurd (true≢false e)
or_right false b e = (refl, e)

any_left : (p : PathValue) (xs ys : List PathValue) → list_any (path_eq p) (xs ++ ys) ≡ false → list_any (path_eq p) xs ≡ false
any_left p [] ys e = refl
any_left p (x ∷ xs) ys e = let two = or_right (path_eq p x) (list_any (path_eq p) (xs ++ ys)) e in ap (λ b. b || list_any (path_eq p) xs) two.0 ∙ any_left p xs ys two.1

rest_off : (folder : PathValue) (name x : List ℕ) (kept : List (List ℕ)) (b : Bool) → list_any (path_eq (in_folder folder name)) (map (in_folder folder) (cond b (x ∷ kept) kept)) ≡ false → list_any (path_eq (in_folder folder name)) (map (in_folder folder) kept) ≡ false
rest_off folder name x kept true e = (or_right _ _ e).1
rest_off folder name x kept false e = e

here_off : (folder : PathValue) (q : List ℕ → Bool) (name x : List ℕ) (kept : List (List ℕ)) → q name ≡ true → name ≡ x → list_any (path_eq (in_folder folder name)) (map (in_folder folder) (cond (q x) (x ∷ kept) kept)) ≡ false → ⊥
here_off folder q name x kept goes is off =
    let here : q x ≡ true = ap q (sym is) ∙ goes in
    let all : list_any (path_eq (in_folder folder name)) (in_folder folder x ∷ map (in_folder folder) kept) ≡ false =
    ap (λ (b : Bool). list_any (path_eq (in_folder folder name)) (map (in_folder folder) (cond b (x ∷ kept) kept))) (sym here) ∙ off in
    true≢false (sym (path_eq-own (in_folder folder name)) ∙ ap (λ y. path_eq (in_folder folder name) (in_folder folder y)) is ∙ (or_right _ _ all).0)

kept_any : (folder : PathValue) (q : List ℕ → Bool) (name : List ℕ) (xs : List (List ℕ)) → q name ≡ true → list_any (path_eq (in_folder folder name)) (map (in_folder folder) (filter q xs)) ≡ false → list_any (bytes_eq name) xs ≡ false
kept_any folder q name [] goes off = refl
kept_any folder q name (x ∷ xs) goes off =
    let rest = kept_any folder q name xs goes (rest_off folder name x (filter q xs) (q x) off) in
    elim (bytes_eq name x) as (λ (b : Bool). bytes_eq name x ≡ b → (b || list_any (bytes_eq name) xs) ≡ false) [
      | true ↦ λ same. absurd (here_off folder q name x (filter q xs) goes ((bytes_decides name x).0 same) off)
      | false ↦ λ other. rest
    ] refl

fresh : (c : Contents) (wal : PathValue) (name : List ℕ) → is_segment name ≡ true → list_any (path_eq (in_folder wal name)) (gone_in c wal (names_in c wal)) ≡ false → entry_at c (in_folder wal name) ≡ None
unfolding gone_in
fresh c wal name goes off =
    let listed : list_any (bytes_eq name) (names_in c wal) ≡ false =
    kept_any wal is_segment name (names_in c wal) goes (any_left (in_folder wal name) (map (in_folder wal) (filter is_segment (names_in c wal))) (map (in_folder (status_folder wal)) (filter is_status (names_at c (status_folder wal)))) off) in
    or_root-more wal.parts name [] (get c (in_folder wal name))
    ∙ none_there (get c (in_folder wal name)) (sym ((names_listing c wal).members name) ∙ listed)

-- ---- what was found

pub found : (c : Contents) (root : PathValue) (segment : Segment) → IsTree c → entry_at c (marks_of root).reset ≡ None → is_file (entry_at c (control_path root)) ≡ true → list_refusal (entry_at c (wal_folder root)) ≡ None
    → gone_refusal c (wal_folder root) (names_in c (wal_folder root)) ≡ None → Found c root (gone_in c (wal_folder root) (names_in c (wal_folder root))) (name_of segment)
unfolding gone_in gone_refusal
found c root segment tree mark control wal gone =
    let folder = wal_folder root in
    let status = status_folder folder in
    let segments = filter is_segment (names_in c folder) in
    let statuses = filter is_status (names_at c status) in
    let all : List PathValue = map (in_folder folder) segments ++ map (in_folder status) statuses in
    record {
      tree = tree;
      mark = mark;
      control = control;
      wal = listed_folder (entry_at c folder) wal;
      under = all-both (IsUnder folder) (map (in_folder folder) segments) (map (in_folder status) statuses) (under-names folder segments) (under-statuses folder statuses);
      files = are-files c all (all-both (λ p. is_some (entry_at c p) ≡ true) (map (in_folder folder) segments) (map (in_folder status) statuses) (stand-kept c folder is_segment) (stand-kept_at c status is_status))
          (first_of-head (status_refusal c folder) (map (kind_refusal c) all) gone).1;
      apart = both-apart folder segments statuses (names-apart folder segments (sorted-kept c folder is_segment)) (names-apart status statuses (sorted-kept_at c status is_status));
      fresh = fresh c folder (name_of segment) (new_name segment);
    }
