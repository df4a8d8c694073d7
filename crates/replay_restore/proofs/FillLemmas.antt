-- What is listed, brought back one after another.
use Rattle.std.proofs.Common.{◌≡◌, ◌≢◌, ◌⊎◌, ℕ, ◌<◌, Bool, true, false, not, ◌&&◌, ◌||◌, List, [], ◌∷◌, length, Option, None, Some, Result, Ok, Err, refl, ap, sym, subst, ◌∙◌, inl, inr, true≢false, arith}
use Rattle.std.proofs.lemmas.Bool.Decides.{nat_tests}
use Rattle.std.proofs.lemmas.Bool.{or_left, or_right}
use Rattle.std.specs.FinMap.{get, insert}
use Rattle.std.specs.List.{list_all, list_any}
use Rattle.cluster_tree.specs.Contents.{Contents, Entry, FileEntry, FolderEntry, LinkEntry, entry_at, is_folder, or_root, parent}
use Rattle.cluster_tree.specs.PathOrder.{path_eq}
use Rattle.cluster_tree.specs.PathValue.{PathValue}
use Rattle.cluster_tree.specs.Tree.{bytes_in, make_refusal}
use Rattle.cluster_tree.specs.declared.file_fault.FileFault.{FileFault}
use Rattle.cluster_tree.proofs.ContentsLemmas.{entry-put, entry-put_other, get-put, get-put_other, put-put, same-contents}
use Rattle.cluster_tree.proofs.TreeLemmas.{same_or_other}
use Rattle.file_edits.specs.Answers.{Does, IsFree}
use Rattle.file_edits.specs.Asking.{folder_asked}
use Rattle.file_edits.specs.Sparing.{Piece}
use Rattle.file_edits.proofs.WayLemmas.{none_asked, unrefused}
use Rattle.replay_list.specs.Lines.{files_behind}
use Rattle.replay_list.specs.declared.listed.Listed.{Listed}
use Rattle.stored_replay.specs.Shadows.{is_sized}
use Rattle.replay_restore.specs.Filled.{CanBring, CanBringAll, FitsFolder, with_all, with_one}

-- ---- a folder

-- what is told where a folder or nothing stands
pub folder-refused : (path : PathValue) (o : Option Entry) (e : FileFault) → FitsFolder o → IsFree e ⊎ (folder_asked path o ≡ Err e) → IsFree e
folder-refused path o e fits (inl free) = free
folder-refused path o e (inl none) (inr is) = let both = sym (ap (folder_asked path) none) ∙ is in absurd cc
folder-refused path o e (inr folder) (inr is) = let both = sym (ap (folder_asked path) folder) ∙ is in absurd cc

get_is : (parts : List (List ℕ)) (o : Option Entry) (v : Entry) → 0 < length parts → or_root parts o ≡ Some v → o ≡ Some v
get_is parts (Some e) v some is = is
get_is [] None v some is = absurd (omega (arith, some))
get_is (part ∷ parts) None v some is = absurd cc

pub put-folder : (c : Contents) (path : PathValue) (v : Entry) → 0 < length path.parts → entry_at c path ≡ Some v → insert c path v ≡ c
put-folder c path v some is = same-contents (insert c path v) c (λ q. same_or_other q path
    (λ same. ap (get (insert c path v)) same ∙ get-put c path v ∙ sym (get_is path.parts (get c path) v some is) ∙ ap (get c) (sym same))
    (λ other. get-put_other c path q v other))

pub folder-there : (c : Contents) (path : PathValue) → 0 < length path.parts → FitsFolder (entry_at c path) → folder_asked path (entry_at c path) ≡ Ok true → insert c path (FolderEntry false) ≡ c
folder-there c path some (inl none) is = let both = sym (ap (folder_asked path) none) ∙ is in absurd cc
folder-there c path some (inr folder) is = put-folder c path (FolderEntry false) some folder

pub folder-unrefused : (c : Contents) (path : PathValue) → folder_asked path (entry_at c path) ≡ Ok false → is_folder (entry_at c (parent path)) ≡ true → make_refusal c path ≡ None
folder-unrefused c path is above = unrefused c path (parent path) (none_asked path (entry_at c path) is) refl above

-- ---- a file of no main fork

-- a file of a size
pub sized-file : (size : ℕ) (o : Option Entry) → is_sized size o ≡ true → (o ≡ Some (FileEntry (bytes_in o))) × (length (bytes_in o) ≡ size)
sized-file size None e = absurd (true≢false (sym e))
sized-file size (Some (FolderEntry bad)) e = absurd (true≢false (sym e))
sized-file size (Some (FileEntry bytes)) e = (refl, grind (arith, nat_tests))
sized-file size (Some LinkEntry) e = absurd (true≢false (sym e))

-- an empty file, and then its bytes
pub file-filled : (c mid new : Contents) (from path : PathValue) (bytes : List ℕ) (r : Result (Unit {0}) FileFault) → entry_at c from ≡ Some (FileEntry bytes) → from ≢ path → mid ≡ insert c path (FileEntry [])
    → (entry_at mid from ≡ Some (FileEntry bytes) → entry_at mid path ≡ Some (FileEntry []) → Does (Ok (insert mid path (FileEntry bytes))) new r) → Does (Ok (insert c path (FileEntry bytes))) new r
file-filled c mid new from path bytes r is other made copies =
    subst (λ x. Does (Ok x) new r) (ap (λ x. insert x path (FileEntry bytes)) made ∙ put-put c path (FileEntry []) (FileEntry bytes))
    (copies (ap (λ x. entry_at x from) made ∙ entry-put_other c path from (FileEntry []) other ∙ is) (ap (λ x. entry_at x path) made ∙ entry-put c path (FileEntry [])))

-- ---- one after another

with-next : (root : PathValue) (files : ℕ) (one : Listed) (more : List Listed) (c : Contents) → with_all root files (one ∷ more) c ≡ with_all root (files_behind files one) more (with_one root files one c)
unfolding with_all
with-next root files one more c = refl

pub with-none : (root : PathValue) (files : ℕ) (c : Contents) → with_all root files [] c ≡ c
unfolding with_all
with-none root files c = refl

can-next : (root : PathValue) (files : ℕ) (one : Listed) (more : List Listed) (c : Contents) → CanBringAll root files (one ∷ more) c → CanBring root files one c × CanBringAll root (files_behind files one) more (with_one root files one c)
unfolding CanBringAll
can-next root files one more c can = can

-- what is still to be brought back, and what all will be
pub record AreBehind (root : PathValue) (all rest : List Listed) (files : ℕ) (first now : Contents) : Type 0 where
  pub can : CanBringAll root files rest now
  pub same : with_all root 0 all first ≡ with_all root files rest now

pub behind-none : (root : PathValue) (all : List Listed) (first : Contents) → CanBringAll root 0 all first → AreBehind root all all 0 first first
behind-none root all first can = record { can = can; same = refl }

module _ (root : PathValue) (all rest : List Listed) (files : ℕ) (first now : Contents) (behind : AreBehind root all rest files first now) (one : Listed) (more : List Listed) (is : rest ≡ one ∷ more) where
  pub behind-can : CanBring root files one now
  behind-can = (can-next root files one more now (subst (λ l. CanBringAll root files l now) is behind.can)).0

  pub behind-on : (next : Contents) (count : ℕ) → next ≡ with_one root files one now → count ≡ files_behind files one → AreBehind root all more count first next
  behind-on next count made counted =
      subst (λ x. AreBehind root all more count first x) (sym made) (subst (λ n. AreBehind root all more n first (with_one root files one now)) (sym counted) (record {
        can = (can-next root files one more now (subst (λ l. CanBringAll root files l now) is behind.can)).1;
        same = behind.same ∙ ap (λ l. with_all root files l now) is ∙ with-next root files one more now;
      }))

pub behind-all : (root : PathValue) (all rest : List Listed) (files : ℕ) (first now : Contents) → AreBehind root all rest files first now → rest ≡ [] → with_all root 0 all first ≡ now
behind-all root all rest files first now behind none = behind.same ∙ ap (λ l. with_all root files l now) none ∙ with-none root files now

-- ---- a test of each of a list, from a place on

pub all-at : {A : Type 0} (test : A → Bool) (one : A) (more rest : List A) → rest ≡ one ∷ more → list_all test rest ≡ true → (test one ≡ true) × (list_all test more ≡ true)
all-at test one more rest is all = both (test one) (list_all test more) (sym (ap (list_all test) is) ∙ all)
  where
    both : (a b : Bool) → (a && b) ≡ true → (a ≡ true) × (b ≡ true)
    both true b h = (refl, h)
    both false b h = absurd cc

pub any-at : {A : Type 0} (test : A → Bool) (one : A) (more rest : List A) → rest ≡ one ∷ more → test one ≡ true → list_any test rest ≡ true
any-at test one more rest is here = ap (list_any test) is ∙ or_left (test one) (list_any test more) here

pub any-past : {A : Type 0} (test : A → Bool) (one : A) (more rest : List A) → rest ≡ one ∷ more → list_any test more ≡ true → list_any test rest ≡ true
any-past test one more rest is there = ap (list_any test) is ∙ or_right (test one) (list_any test more) there

pub any-not : {A : Type 0} (test : A → Bool) (one : A) (more rest : List A) → rest ≡ one ∷ more → test one ≡ false → list_any test rest ≡ list_any test more
any-not test one more rest is not_here = ap (list_any test) is ∙ ap (λ b. b || list_any test more) not_here

pub ruleset folder_steps = (folder-refused, folder-there, folder-unrefused)

pub spared-away : (piece : Piece) (path : PathValue) → not (path_eq piece.path path) ≡ true → path_eq piece.path path ≡ false
spared-away piece path is = by (path_eq piece.path path) is
  where
    by : (b : Bool) → not b ≡ true → b ≡ false
    by true e = absurd (true≢false (sym e))
    by false e = refl
