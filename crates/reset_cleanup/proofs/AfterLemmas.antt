-- What the changes of a reset leave, path by path.
use Rattle.std.proofs.Common.{◌≡◌, ◌≢◌, ℕ, Bool, true, false, List, [], ◌∷◌, ◌++◌, map, None, Some, ◌||◌, refl, sym, ap, ◌∙◌, subst, true≢false, codes}
use Rattle.std.specs.FinMap.{insert, remove}
use Rattle.std.specs.List.{AllByRecursion, list_any}
use Rattle.layout.specs.Splice.{splice}
use Rattle.cluster_tree.specs.PathValue.{PathValue}
use Rattle.cluster_tree.specs.PathOrder.{path_eq}
use Rattle.cluster_tree.specs.Contents.{Contents, FileEntry, entry_at, or_root}
use Rattle.cluster_tree.specs.Change.{Change, MakesFile, Removes, Writes, all_changed}
use Rattle.cluster_tree.specs.Tree.{bytes_at, bytes_in, written}
use Rattle.cluster_tree.proofs.ChangeLemmas.{changed-in_turn}
use Rattle.cluster_tree.proofs.ContentsLemmas.{entry-put, entry-put_other, entry-removed, entry-removed_other, written-new}
use Rattle.cluster_tree.proofs.OrderLemmas.{path_eq-own, path_eq-same}
use Rattle.clusters.specs.Roots.{wal_folder}
use Rattle.marked_runs.specs.Runs.{ended, marked}
use Rattle.reset_plan.specs.Reset.{in_folder}
use Rattle.reset_cleanup.proofs.GoneLemmas.{none-of, removals-elsewhere, removals-gone}
use Rattle.reset_cleanup.proofs.UnderLemmas.{IsUnder, all-map, beside-control, control_path, under-beside, under-control}
use Rattle.reset_cleanup.proofs.UnrefusedLemmas.{Found, controlled, emptied, kept-controlled, mark_path, marked_tree, new-under, or_root-more}

-- what is changed under the mark
abbrev pub reset_body : PathValue → List PathValue → (name bytes page : List ℕ) → List Change
reset_body root gone name bytes page =
    Writes (control_path root) 0 bytes ∷ (map Removes gone ++ MakesFile (in_folder (wal_folder root) name) ∷ Writes (in_folder (wal_folder root) name) 0 page ∷ [])

abbrev pub reset_changes : PathValue → List PathValue → (name text bytes page : List ℕ) → List Change
reset_changes root gone name text bytes page = marked (mark_path root) text (reset_body root gone name bytes page)

-- with the new segment
abbrev filled : Contents → PathValue → List PathValue → (name text bytes page : List ℕ) → Contents
filled c root gone name text bytes page = insert (emptied c root gone text bytes) (in_folder (wal_folder root) name) (FileEntry page)

changed-is : (c : Contents) (root : PathValue) (gone : List PathValue) (name text bytes page : List ℕ) → all_changed c (reset_changes root gone name text bytes page) ≡ remove (filled c root gone name text bytes page) (mark_path root)
changed-is c root gone name text bytes page =
    let mark = mark_path root in
    let new = in_folder (wal_folder root) name in
    let news : List Change = MakesFile new ∷ Writes new 0 page ∷ [] in
    let d : Contents = emptied c root gone text bytes in
    ap (λ x. all_changed (written x (control_path root) 0 bytes) ((map Removes gone ++ news) ++ ended mark)) (written-new c mark text)
    ∙ changed-in_turn (controlled c root text bytes) (map Removes gone ++ news) (ended mark)
    ∙ ap (λ x. remove x mark) (changed-in_turn (controlled c root text bytes) (map Removes gone) news ∙ written-new d new page)

pub record LeftAt (c d : Contents) (root : PathValue) (gone : List PathValue) (name bytes page : List ℕ) : Type 0 where
  pub says : entry_at d (control_path root) ≡ Some (FileEntry (splice (bytes_at c (control_path root)) 0 bytes))
  pub log : entry_at d (in_folder (wal_folder root) name) ≡ Some (FileEntry page)
  pub away : (path : PathValue) → list_any (path_eq path) gone ≡ true → path ≢ in_folder (wal_folder root) name → entry_at d path ≡ None
  pub unmarked : entry_at d (mark_path root) ≡ None
  pub others : (path : PathValue) → list_any (path_eq path) gone ≡ false → path ≢ control_path root → path ≢ in_folder (wal_folder root) name → entry_at d path ≡ entry_at c path

-- one of some is what all of them are
any-of : (P : PathValue → Type 0) (p : PathValue) (xs : List PathValue) → AllByRecursion P xs → list_any (path_eq p) xs ≡ true → P p
any-of P p [] all e = absurd (true≢false (sym e))
any-of P p (x ∷ xs) all e =
    elim (path_eq p x) as (λ (b : Bool). path_eq p x ≡ b → P p) [
      | true ↦ λ same. subst P (sym (path_eq-same p x same)) all.0
      | false ↦ λ off. any-of P p xs all.1 (sym (ap (λ b. b || list_any (path_eq p) xs) off) ∙ e)
    ] refl

under_root : (folder p : PathValue) → IsUnder folder p → or_root p.parts None ≡ None
under_root folder p u = ap (λ (q : PathValue). or_root q.parts None) u.is ∙ or_root-more folder.parts u.first u.rest None

module _ (c : Contents) (root : PathValue) (gone : List PathValue) (name text bytes page : List ℕ) (found : Found c root gone name) where
  new_off_mark : in_folder (wal_folder root) name ≢ mark_path root
  new_off_mark = under-beside root (in_folder (wal_folder root) name) (codes "pg_resetwal.unfinished") (new-under root name)

  control_off_mark : control_path root ≢ mark_path root
  control_off_mark = λ e. beside-control root (codes "pg_resetwal.unfinished") (sym e)

  control_off_new : control_path root ≢ in_folder (wal_folder root) name
  control_off_new = λ e. under-control root (in_folder (wal_folder root) name) (new-under root name) (sym e)

  -- what stands behind the mark and the new segment
  behind : (p : PathValue) → p ≢ mark_path root → p ≢ in_folder (wal_folder root) name → entry_at (remove (filled c root gone name text bytes page) (mark_path root)) p ≡ entry_at (emptied c root gone text bytes) p
  behind p off_mark off_new =
      entry-removed_other (filled c root gone name text bytes page) (mark_path root) p off_mark
      ∙ entry-put_other (emptied c root gone text bytes) (in_folder (wal_folder root) name) p (FileEntry page) off_new

  control_said : entry_at (emptied c root gone text bytes) (control_path root) ≡ Some (FileEntry (splice (bytes_at c (control_path root)) 0 bytes))
  control_said =
      removals-elsewhere (controlled c root text bytes) gone (control_path root)
      (none-of (control_path root) gone (all-map (IsUnder (wal_folder root)) (λ p. p ≢ control_path root) (λ p u. under-control root p u) gone found.under))
      ∙ entry-put (marked_tree c root text) (control_path root) (FileEntry (splice (bytes_at (marked_tree c root text) (control_path root)) 0 bytes))
      ∙ ap (λ o. Some (FileEntry (splice (bytes_in o) 0 bytes))) (entry-put_other c (mark_path root) (control_path root) (FileEntry text) control_off_mark)

  stayed : (p : PathValue) → list_any (path_eq p) gone ≡ false → p ≢ mark_path root → p ≢ control_path root → entry_at (emptied c root gone text bytes) p ≡ entry_at c p
  stayed p off off_mark off_control = removals-elsewhere (controlled c root text bytes) gone p off ∙ kept-controlled c root p text bytes off_mark off_control

  marked_off : entry_at (remove (filled c root gone name text bytes page) (mark_path root)) (mark_path root) ≡ None
  marked_off = entry-removed (filled c root gone name text bytes page) (mark_path root) ∙ or_root-more root.parts (codes "pg_resetwal.unfinished") [] None

  left_there : LeftAt c (remove (filled c root gone name text bytes page) (mark_path root)) root gone name bytes page
  left_there = record {
    says = behind (control_path root) control_off_mark control_off_new ∙ control_said;
    log = entry-removed_other (filled c root gone name text bytes page) (mark_path root) (in_folder (wal_folder root) name) new_off_mark
        ∙ entry-put (emptied c root gone text bytes) (in_folder (wal_folder root) name) (FileEntry page);
    away = λ p among off.
        let under = any-of (IsUnder (wal_folder root)) p gone found.under among in
        behind p (under-beside root p (codes "pg_resetwal.unfinished") under) off
        ∙ removals-gone (controlled c root text bytes) gone p found.apart among ∙ under_root (wal_folder root) p under;
    unmarked = marked_off;
    others = λ p off off_control off_new.
        elim (path_eq p (mark_path root)) as (λ (b : Bool). path_eq p (mark_path root) ≡ b → entry_at (remove (filled c root gone name text bytes page) (mark_path root)) p ≡ entry_at c p) [
          | true ↦ λ same.
              ap (λ q. entry_at (remove (filled c root gone name text bytes page) (mark_path root)) q) (path_eq-same p (mark_path root) same)
              ∙ marked_off ∙ sym found.mark ∙ ap (λ q. entry_at c q) (sym (path_eq-same p (mark_path root) same))
          | false ↦ λ other.
              let off_mark : p ≢ mark_path root = λ e. true≢false (sym (ap (path_eq p) (sym e) ∙ path_eq-own p) ∙ other) in
              behind p off_mark off_new ∙ stayed p off off_mark off_control
        ] refl;
  }

pub left-at : (c : Contents) (root : PathValue) (gone : List PathValue) (name text bytes page : List ℕ) → Found c root gone name → LeftAt c (all_changed c (reset_changes root gone name text bytes page)) root gone name bytes page
left-at c root gone name text bytes page found = subst (λ d. LeftAt c d root gone name bytes page) (sym (changed-is c root gone name text bytes page)) (left_there c root gone name text bytes page found)
