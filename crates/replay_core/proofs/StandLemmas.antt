-- None of the changes of a replay's own is refused.
use Rattle.std.proofs.Common.{◌≡◌, ◌+◌, ◌<◌, ◌≤◌, ◌^◌, ◌%◌, ◌==◌, ℕ, Bool, true, false, ◌&&◌, cond, nat_le, nat_lt, List, [], ◌∷◌, ◌++◌, length, Option, None, Some, is_some, refl, sym, ap, ◌∙◌, subst, arith, rules, true≢false, append_assoc, codes}
use Rattle.std.proofs.lemmas.Bool.{and_parts}
use Rattle.std.proofs.lemmas.Bool.Decides.{Decides-eqb, nat_tests}
use Rattle.std.specs.Prelude.{if◌then◌else◌}
use Rattle.std.specs.FinMap.{get, insert}
use Rattle.cluster_tree.specs.PathValue.{PathValue, below}
use Rattle.cluster_tree.specs.Contents.{Contents, Entry, FolderEntry, FileEntry, LinkEntry, IsTree, entry_at, is_file, is_folder, or_root, parent}
use Rattle.cluster_tree.specs.Change.{Removes, all_changed, first_refusal, or_next}
use Rattle.cluster_tree.specs.Folders.{removal_refusal}
use Rattle.cluster_tree.specs.Tree.{file_of, make_refusal, refusal_in, refusal_past, write_refusal, written}
use Rattle.cluster_tree.specs.declared.tree.TreeFault.TheVariants as fault
use Rattle.cluster_tree.proofs.ContentsLemmas.{entry-put, entry-put_other, write_refusal-new, written-new}
use Rattle.cluster_tree.proofs.FolderLemmas.{lies_in-below}
use Rattle.cluster_tree.proofs.OrderLemmas.{path_eq-same}
use Rattle.control_file.specs.Admission.{IsControl}
use Rattle.control_file.specs.Rows.{head_rows, checkpoint_rows, recovery_rows, setting_rows, build_rows, rows_of}
use Rattle.control_file.specs.Writing.{control_bytes}
use Rattle.control_file.specs.declared.control.Control.{Control}
use Rattle.marked_runs.specs.Runs.{ended}
use Rattle.storage_replay.specs.Files.{AreFit}
use Rattle.wal_pages.specs.Header.{header_size}
use Rattle.wal_records.specs.Place.{place_at}
use Rattle.replay_core.specs.Replayed.{beginning, closing_files, control_path, label_path, mark_of, mark_text}
use Rattle.replay_core.specs.Stages.{EndsStand, Stand}
use Rattle.replay_core.proofs.PathLemmas.{control-label, control-mark, control_path-is, label-mark}

no_less : (n : ℕ) → nat_lt n 0 ≡ false
no_less n = grind (arith, rules)

file_write : (o : Option Entry) → is_file o ≡ true → refusal_past (file_of o) 0 ≡ None
file_write None e = absurd (true≢false (sym e))
file_write (Some (FolderEntry bad)) e = absurd (true≢false (sym e))
file_write (Some (FileEntry bytes)) e = ap (λ b. cond b (Some fault.PastEnd) None) (no_less (length bytes))
file_write (Some LinkEntry) e = absurd (true≢false (sym e))

file_remove : (in_use : Bool) (o : Option Entry) → is_file o ≡ true → removal_refusal in_use o ≡ None
file_remove in_use None e = absurd (true≢false (sym e))
file_remove in_use (Some (FolderEntry bad)) e = absurd (true≢false (sym e))
file_remove in_use (Some (FileEntry bytes)) e = refl
file_remove in_use (Some LinkEntry) e = absurd (true≢false (sym e))

-- ---- at the end

pub files-unrefused : (c : Contents) (root : PathValue) (control : Control) → EndsStand c root → first_refusal c (closing_files root control) ≡ None
files-unrefused c root control stand =
    let path = control_path root in
    let label = label_path root in
    let first : Contents = written c path 0 (control_bytes control) in
    let label_there : is_file (entry_at first label) ≡ true = ap is_file (entry-put_other c path label _ (λ e. control-label root (sym e))) ∙ stand.label in
    ap (λ o. or_next o (first_refusal first (Removes label ∷ []))) (file_write (entry_at c path) stand.control) ∙ ap (λ o. or_next o None) (file_remove _ (entry_at first label) label_there)

pub ended-unrefused : (c : Contents) (mark : PathValue) → is_file (entry_at c mark) ≡ true → first_refusal c (ended mark) ≡ None
ended-unrefused c mark there = ap (λ o. or_next o None) (file_remove _ (entry_at c mark) there)

-- ---- at the beginning

or_root_more : (xs : List (List ℕ)) (y : List ℕ) (ys : List (List ℕ)) (o : Option Entry) → or_root (xs ++ y ∷ ys) o ≡ o
or_root_more [] y ys None = refl
or_root_more [] y ys (Some e) = refl
or_root_more (x ∷ xs) y ys None = refl
or_root_more (x ∷ xs) y ys (Some e) = refl

file_there : (o : Option Entry) → is_file o ≡ true → is_some o ≡ true
file_there None e = absurd (true≢false (sym e))
file_there (Some entry) e = refl

folder_there : (o : Option Entry) → is_folder o ≡ true → is_some o ≡ true
folder_there None e = absurd (true≢false (sym e))
folder_there (Some entry) e = refl

second_true : (a b : Bool) → (a && b) ≡ true → b ≡ true
second_true true b e = e
second_true false b e = absurd (true≢false (sym e))

parent_below : (folder : PathValue) (name : List ℕ) → parent (below folder (name ∷ [])) ≡ folder
parent_below folder name = sym (path_eq-same folder (parent (below folder (name ∷ []))) (second_true _ _ (lies_in-below folder name)))

-- what lies right below a path makes it a folder
above : (c : Contents) (folder : PathValue) (name : List ℕ) → IsTree c → is_some (entry_at c (below folder (name ∷ []))) ≡ true → is_folder (entry_at c folder) ≡ true
above c folder name tree there =
    ap (λ p. is_folder (entry_at c p)) (sym (parent_below folder name))
    ∙ tree (below folder (name ∷ [])) (ap is_some (sym (or_root_more folder.parts name [] (get c (below folder (name ∷ []))))) ∙ there)

-- so the root of a control file is one
pub root_folder : (c : Contents) (root : PathValue) → IsTree c → is_file (entry_at c (control_path root)) ≡ true → is_folder (entry_at c root) ≡ true
root_folder c root tree file =
    let global = below root (codes "global" ∷ []) in
    let same : below global (codes "pg_control" ∷ []) ≡ control_path root =
    ap (λ l. record root { parts = l }) (append_assoc root.parts (codes "global" ∷ []) (codes "pg_control" ∷ [])) ∙ sym (control_path-is root) in
    above c root (codes "global") tree (folder_there (entry_at c global) (above c global (codes "pg_control") tree (ap (λ p. is_some (entry_at c p)) same ∙ file_there (entry_at c (control_path root)) file)))

folder_in : (o : Option Entry) → is_folder o ≡ true → refusal_in o ≡ None
folder_in None e = absurd (true≢false (sym e))
folder_in (Some (FolderEntry bad)) e = refl
folder_in (Some (FileEntry bytes)) e = absurd (true≢false (sym e))
folder_in (Some LinkEntry) e = absurd (true≢false (sym e))

pub beginning-unrefused : (c : Contents) (root : PathValue) → IsTree c → entry_at c (mark_of root) ≡ None → is_file (entry_at c (control_path root)) ≡ true → first_refusal c (beginning root) ≡ None
beginning-unrefused c root tree none control =
    let mark = mark_of root in
    let made : Contents = insert c mark (FileEntry []) in
    let make : make_refusal c mark ≡ None =
    ap (λ o. cond (is_some o) (Some fault.Exists) (refusal_in (entry_at c (parent mark)))) none
    ∙ ap (λ p. refusal_in (entry_at c p)) (parent_below root (codes "pg_walreplay.unfinished"))
    ∙ folder_in (entry_at c root) (root_folder c root tree control) in
    ap (λ o. or_next o (or_next (write_refusal made mark 0) None)) make ∙ ap (λ o. or_next o None) (write_refusal-new c mark)

-- and then the mark stands, and all else is as it was
pub begun-contents : (c : Contents) (root : PathValue) → all_changed c (beginning root) ≡ insert c (mark_of root) (FileEntry mark_text)
begun-contents c root = written-new c (mark_of root) mark_text

pub begun-stand : (c : Contents) (root : PathValue) → is_file (entry_at c (control_path root)) ≡ true → is_file (entry_at c (label_path root)) ≡ true → Stand (insert c (mark_of root) (FileEntry mark_text)) root
begun-stand c root control label = record {
  mark = ap is_file (entry-put c (mark_of root) (FileEntry mark_text));
  ends = record {
    control = ap is_file (entry-put_other c (mark_of root) (control_path root) (FileEntry mark_text) (control-mark root)) ∙ control;
    label = ap is_file (entry-put_other c (mark_of root) (label_path root) (FileEntry mark_text) (label-mark root)) ∙ label;
  };
}

-- ---- what a replay begins with

some_of : (n : ℕ) → nat_le 1 n ≡ true → 0 < n
some_of n e = grind (arith, nat_tests, e)

most_of : (n : ℕ) → nat_le n 131072 ≡ true → n ≤ 131072
most_of n e = grind (arith, nat_tests, e)

-- the rules of a control file bound how many blocks a file holds
pub fit-files : (root other : PathValue) (control : Control) → other ≡ root → length root.parts ≤ 61 → IsControl control → AreFit (record { root = other; per_file = control.relseg })
unfolding rows_of head_rows checkpoint_rows recovery_rows setting_rows build_rows
fit-files root other control same room is =
    let two = and_parts (nat_le 1 control.relseg) (nat_le control.relseg 131072) is.shape.1.1.1.1.1.1.1.1.1.1.1.1.1.1.1.1.1.1.1.1.1.1.1.1.1.1.1.1.1.1.1.1.1.1.1.1.1.1.1.0 in
    record {
      room = subst (λ (p : PathValue). length p.parts ≤ 61) (sym same) room;
      some = some_of control.relseg two.0;
      most = most_of control.relseg two.1;
    }

header_small : (b : Bool) → (if b then 40 else 24) ≤ 40
header_small true = omega arith
header_small false = omega arith

page_low : (at h : ℕ) → at % 8192 ≡ 0 → h ≤ 40 → at < 2 ^ 64 → at + h < 2 ^ 64
page_low at h page small low = grind (arith, page, small, low)

-- a place in a page is a number of 64 bits
pub place-low : (size at : ℕ) → at < 2 ^ 64 → place_at size at < 2 ^ 64
place-low size at low =
    elim (at % 8192 == 0) as (λ (b : Bool). (at % 8192 == 0) ≡ b → (if b then at + header_size size at else at) < 2 ^ 64) [
      | true ↦ λ is. page_low at (header_size size at) ((Decides-eqb (at % 8192) 0).0 is) (header_small (at % size == 0)) low
      | false ↦ λ is. low
    ] refl
