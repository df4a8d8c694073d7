-- Where a reset was looked at, none of its changes is refused.
use Rattle.std.proofs.Common.{◌≡◌, ◌≢◌, ℕ, Bool, true, false, cond, nat_lt, List, [], ◌∷◌, ◌++◌, length, map, Option, None, Some, is_some, refl, sym, ap, ◌∙◌, arith, rules, true≢false, append_assoc, codes}
use Rattle.std.specs.FinMap.{get, insert}
use Rattle.std.specs.List.{AllByRecursion, list_any}
use Rattle.cluster_tree.specs.PathValue.{PathValue, below}
use Rattle.cluster_tree.specs.PathOrder.{path_eq}
use Rattle.cluster_tree.specs.Contents.{Contents, Entry, FolderEntry, FileEntry, LinkEntry, IsTree, entry_at, is_file, is_folder, or_root, parent}
use Rattle.cluster_tree.specs.Change.{Change, MakesFile, Removes, Writes, all_changed, first_refusal, or_next}
use Rattle.cluster_tree.specs.Folders.{removal_refusal}
use Rattle.cluster_tree.specs.Marks.{marks_of}
use Rattle.cluster_tree.specs.Tree.{file_of, make_refusal, refusal_in, refusal_past, write_refusal, written}
use Rattle.cluster_tree.specs.declared.tree.TreeFault.TheVariants as fault
use Rattle.cluster_tree.proofs.ContentsLemmas.{entry-put, entry-put_other, write_refusal-new, written-new}
use Rattle.clusters.specs.Roots.{wal_folder}
use Rattle.marked_runs.specs.Runs.{begun, ended, marked}
use Rattle.marked_runs.proofs.CarriedLemmas.{unrefused-both}
use Rattle.reset_plan.specs.Reset.{in_folder}
use Rattle.reset_cleanup.proofs.GoneLemmas.{AreApart, AreFiles, files-kept, none-of, removals-elsewhere, removals-gone, removals-unrefused}
use Rattle.reset_cleanup.proofs.UnderLemmas.{IsUnder, all-map, beside-control, control_path, parent-below, under-beside, under-control, under-folder, wal-mark}

abbrev pub mark_path : PathValue → PathValue
mark_path root = below root (codes "pg_resetwal.unfinished" ∷ [])

-- what is known of a tree and of the files that go
pub record Found (c : Contents) (root : PathValue) (gone : List PathValue) (name : List ℕ) : Type 0 where
  pub tree : IsTree c
  pub mark : entry_at c (marks_of root).reset ≡ None
  pub control : is_file (entry_at c (control_path root)) ≡ true
  pub wal : is_folder (entry_at c (wal_folder root)) ≡ true
  pub under : AllByRecursion (IsUnder (wal_folder root)) gone
  pub files : AreFiles c gone
  pub apart : AreApart gone
  pub fresh : list_any (path_eq (in_folder (wal_folder root) name)) gone ≡ false → entry_at c (in_folder (wal_folder root) name) ≡ None

-- ---- the root is a folder

pub or_root-more : (xs : List (List ℕ)) (y : List ℕ) (ys : List (List ℕ)) (o : Option Entry) → or_root (xs ++ y ∷ ys) o ≡ o
or_root-more [] y ys None = refl
or_root-more [] y ys (Some e) = refl
or_root-more (x ∷ xs) y ys None = refl
or_root-more (x ∷ xs) y ys (Some e) = refl

file_there : (o : Option Entry) → is_file o ≡ true → is_some o ≡ true
file_there None e = absurd (true≢false (sym e))
file_there (Some entry) e = refl

folder_there : (o : Option Entry) → is_folder o ≡ true → is_some o ≡ true
folder_there None e = absurd (true≢false (sym e))
folder_there (Some entry) e = refl

-- what lies right below a path makes it a folder
above : (c : Contents) (folder : PathValue) (name : List ℕ) → IsTree c → is_some (entry_at c (below folder (name ∷ []))) ≡ true → is_folder (entry_at c folder) ≡ true
above c folder name tree there =
    ap (λ p. is_folder (entry_at c p)) (sym (parent-below folder name))
    ∙ tree (below folder (name ∷ [])) (ap is_some (sym (or_root-more folder.parts name [] (get c (below folder (name ∷ []))))) ∙ there)

root_folder : (c : Contents) (root : PathValue) → IsTree c → is_file (entry_at c (control_path root)) ≡ true → is_folder (entry_at c root) ≡ true
root_folder c root tree file =
    let global = below root (codes "global" ∷ []) in
    let same : below global (codes "pg_control" ∷ []) ≡ control_path root = ap (λ l. record root { parts = l }) (append_assoc root.parts (codes "global" ∷ []) (codes "pg_control" ∷ [])) in
    above c root (codes "global") tree (folder_there (entry_at c global) (above c global (codes "pg_control") tree (ap (λ p. is_some (entry_at c p)) same ∙ file_there (entry_at c (control_path root)) file)))

-- ---- single calls

no_less : (n : ℕ) → nat_lt n 0 ≡ false
no_less n = grind (arith, rules)

file_write : (o : Option Entry) → is_file o ≡ true → refusal_past (file_of o) 0 ≡ None
file_write None e = absurd (true≢false (sym e))
file_write (Some (FolderEntry bad)) e = absurd (true≢false (sym e))
file_write (Some (FileEntry bytes)) e = ap (λ b. cond b (Some fault.PastEnd) None) (no_less (length bytes))
file_write (Some LinkEntry) e = absurd (true≢false (sym e))

folder_in : (o : Option Entry) → is_folder o ≡ true → refusal_in o ≡ None
folder_in None e = absurd (true≢false (sym e))
folder_in (Some (FolderEntry bad)) e = refl
folder_in (Some (FileEntry bytes)) e = absurd (true≢false (sym e))
folder_in (Some LinkEntry) e = absurd (true≢false (sym e))

-- a file in a folder, where nothing stands yet
make_unrefused : (c : Contents) (folder : PathValue) (name : List ℕ) → entry_at c (below folder (name ∷ [])) ≡ None → is_folder (entry_at c folder) ≡ true → make_refusal c (below folder (name ∷ [])) ≡ None
make_unrefused c folder name none up =
    ap (λ o. cond (is_some o) (Some fault.Exists) (refusal_in (entry_at c (parent (below folder (name ∷ [])))))) none
    ∙ ap (λ p. refusal_in (entry_at c p)) (parent-below folder name)
    ∙ folder_in (entry_at c folder) up

-- and its bytes
new_unrefused : (c : Contents) (folder : PathValue) (name bytes : List ℕ) (more : List Change) → entry_at c (below folder (name ∷ [])) ≡ None → is_folder (entry_at c folder) ≡ true
    → first_refusal (written (insert c (below folder (name ∷ [])) (FileEntry [])) (below folder (name ∷ [])) 0 bytes) more ≡ None
    → first_refusal c (MakesFile (below folder (name ∷ [])) ∷ Writes (below folder (name ∷ [])) 0 bytes ∷ more) ≡ None
new_unrefused c folder name bytes more none up rest =
    let path = below folder (name ∷ []) in
    let made = insert c path (FileEntry []) in
    ap (λ o. or_next o (or_next (write_refusal made path 0) (first_refusal (written made path 0 bytes) more))) (make_unrefused c folder name none up)
    ∙ ap (λ o. or_next o (first_refusal (written made path 0 bytes) more)) (write_refusal-new c path)
    ∙ rest

remove_file : (in_use : Bool) (o : Option Entry) (bytes : List ℕ) → o ≡ Some (FileEntry bytes) → removal_refusal in_use o ≡ None
remove_file in_use o bytes e = ap (removal_refusal in_use) e

-- ---- the changes in turn

abbrev pub marked_tree : Contents → PathValue → List ℕ → Contents
marked_tree c root text = insert c (mark_path root) (FileEntry text)

abbrev pub controlled : Contents → PathValue → List ℕ → List ℕ → Contents
controlled c root text bytes = written (marked_tree c root text) (control_path root) 0 bytes

abbrev pub emptied : Contents → PathValue → List PathValue → List ℕ → List ℕ → Contents
emptied c root gone text bytes = all_changed (controlled c root text bytes) (map Removes gone)

pub kept-controlled : (c : Contents) (root p : PathValue) (text bytes : List ℕ) → p ≢ mark_path root → p ≢ control_path root → entry_at (controlled c root text bytes) p ≡ entry_at c p
kept-controlled c root p text bytes off_mark off_control =
    entry-put_other (marked_tree c root text) (control_path root) p _ off_control ∙ entry-put_other c (mark_path root) p (FileEntry text) off_mark

all_kept : (c : Contents) (root : PathValue) (text bytes : List ℕ) (paths : List PathValue) → AllByRecursion (IsUnder (wal_folder root)) paths → AllByRecursion (λ p. entry_at (controlled c root text bytes) p ≡ entry_at c p) paths
all_kept c root text bytes paths under =
    all-map (IsUnder (wal_folder root)) (λ p. entry_at (controlled c root text bytes) p ≡ entry_at c p)
    (λ p u. kept-controlled c root p text bytes (under-beside root p (codes "pg_resetwal.unfinished") u) (under-control root p u)) paths under

wal_kept : (c : Contents) (root : PathValue) (gone : List PathValue) (name text bytes : List ℕ) → Found c root gone name → entry_at (emptied c root gone text bytes) (wal_folder root) ≡ entry_at c (wal_folder root)
wal_kept c root gone name text bytes found =
    removals-elsewhere (controlled c root text bytes) gone (wal_folder root) (none-of (wal_folder root) gone (all-map (IsUnder (wal_folder root)) (λ p. p ≢ wal_folder root) (λ p u. under-folder (wal_folder root) p u) gone found.under))
    ∙ kept-controlled c root (wal_folder root) text bytes (wal-mark root) (beside-control root (codes "pg_wal"))

pub new-under : (root : PathValue) (name : List ℕ) → IsUnder (wal_folder root) (in_folder (wal_folder root) name)
new-under root name = record { first = name; rest = []; is = refl }

new_absent : (c : Contents) (root : PathValue) (gone : List PathValue) (name text bytes : List ℕ) → Found c root gone name → entry_at (emptied c root gone text bytes) (in_folder (wal_folder root) name) ≡ None
new_absent c root gone name text bytes found =
    let new = in_folder (wal_folder root) name in
    elim (list_any (path_eq new) gone) as (λ b. list_any (path_eq new) gone ≡ b → entry_at (emptied c root gone text bytes) new ≡ None) [
      | true ↦ λ among. removals-gone (controlled c root text bytes) gone new found.apart among ∙ or_root-more (wal_folder root).parts name [] None
      | false ↦ λ off. removals-elsewhere (controlled c root text bytes) gone new off
          ∙ kept-controlled c root new text bytes (under-beside root new (codes "pg_resetwal.unfinished") (new-under root name)) (under-control root new (new-under root name))
          ∙ found.fresh off
    ] refl

mark_stands : (c : Contents) (root : PathValue) (gone : List PathValue) (name text bytes : List ℕ) → Found c root gone name → entry_at (emptied c root gone text bytes) (mark_path root) ≡ Some (FileEntry text)
mark_stands c root gone name text bytes found =
    removals-elsewhere (controlled c root text bytes) gone (mark_path root) (none-of (mark_path root) gone (all-map (IsUnder (wal_folder root)) (λ p. p ≢ mark_path root) (λ p u. under-beside root p (codes "pg_resetwal.unfinished") u) gone found.under))
    ∙ entry-put_other (marked_tree c root text) (control_path root) (mark_path root) _ (beside-control root (codes "pg_resetwal.unfinished"))
    ∙ entry-put c (mark_path root) (FileEntry text)

end_unrefused : (d : Contents) (mark : PathValue) (text : List ℕ) → entry_at d mark ≡ Some (FileEntry text) → first_refusal d (ended mark) ≡ None
end_unrefused d mark text stands = ap (λ o. or_next o None) (remove_file _ (entry_at d mark) text stands)

-- all of them
pub reset-unrefused : (c : Contents) (root : PathValue) (gone : List PathValue) (name text bytes page : List ℕ) → Found c root gone name
    → first_refusal c (marked (mark_path root) text (Writes (control_path root) 0 bytes ∷ (map Removes gone ++ MakesFile (in_folder (wal_folder root) name) ∷ Writes (in_folder (wal_folder root) name) 0 page ∷ []))) ≡ None
reset-unrefused c root gone name text bytes page found =
    let mark = mark_path root in
    let wal = wal_folder root in
    let new = in_folder wal name in
    let tail : List Change = MakesFile new ∷ Writes new 0 page ∷ ended mark in
    let last : List Change = map Removes gone ++ tail in
    let d = emptied c root gone text bytes in
    let e : Contents = written (insert d new (FileEntry [])) new 0 page in
    let ends : first_refusal e (ended mark) ≡ None =
    end_unrefused e mark text (
    entry-put_other (insert d new (FileEntry [])) new mark _ (λ h. under-beside root new (codes "pg_resetwal.unfinished") (new-under root name) (sym h))
    ∙ entry-put_other d new mark (FileEntry []) (λ h. under-beside root new (codes "pg_resetwal.unfinished") (new-under root name) (sym h))
    ∙ mark_stands c root gone name text bytes found) in
    let news : first_refusal d tail ≡ None =
    new_unrefused d wal name page (ended mark) (new_absent c root gone name text bytes found) (ap is_folder (wal_kept c root gone name text bytes found) ∙ found.wal) ends in
    let goes : first_refusal (controlled c root text bytes) last ≡ None =
    unrefused-both (controlled c root text bytes) (map Removes gone) tail
    (removals-unrefused (controlled c root text bytes) gone found.apart (files-kept c (controlled c root text bytes) gone (all_kept c root text bytes gone found.under) found.files)) news in
    let writes : first_refusal (marked_tree c root text) (Writes (control_path root) 0 bytes ∷ last) ≡ None =
    ap (λ o. or_next o (first_refusal (controlled c root text bytes) last))
    (file_write (entry_at (marked_tree c root text) (control_path root)) (ap is_file (entry-put_other c mark (control_path root) (FileEntry text) (λ h. beside-control root (codes "pg_resetwal.unfinished") (sym h))) ∙ found.control))
    ∙ goes in
    let begins : first_refusal c (MakesFile mark ∷ Writes mark 0 text ∷ Writes (control_path root) 0 bytes ∷ last) ≡ None =
    new_unrefused c root (codes "pg_resetwal.unfinished") text (Writes (control_path root) 0 bytes ∷ last) found.mark (root_folder c root found.tree found.control)
    (ap (λ x. first_refusal x (Writes (control_path root) 0 bytes ∷ last)) (written-new c mark text) ∙ writes) in
    ap (λ l. first_refusal c (begun mark text ++ Writes (control_path root) 0 bytes ∷ l)) (append_assoc (map Removes gone) (MakesFile new ∷ Writes new 0 page ∷ []) (ended mark)) ∙ begins
