-- What stands at the marks of a target.
use Rattle.std.proofs.Common.{◌≡◌, ◌⊎◌, ◌≤◌, ℕ, arith, List, [], ◌∷◌, Option, None, Some, Result, Ok, Err, inl, inr, refl, sym, ap, subst, ◌∙◌}
use Rattle.std.specs.Prelude.{codes, IsErrOf, Vec, option_map}
use Rattle.cluster_tree.specs.Causes.{Passes, Rose, first_of, given, unless}
use Rattle.cluster_tree.proofs.PointLemmas.{first_of-none, first_of-some}
use Rattle.cluster_tree.specs.Contents.{Contents, Entry, FileEntry, FolderEntry, LinkEntry, entry_at}
use Rattle.cluster_tree.specs.Marks.{marks_of}
use Rattle.cluster_tree.specs.PathValue.{PathValue}
use Rattle.cluster_tree.specs.Tree.{file_of}
use Rattle.clusters.specs.Faults.{IsFree}
use Rattle.clusters.specs.Roots.{path_in}
use Rattle.clusters.specs.WholeFile.{all_of}
use Rattle.clusters.specs.declared.fault.ClusterFault.{ClusterFault}
use Rattle.plan_text.specs.Mark.{mark_told}
use Rattle.plan_text.specs.declared.mark.MarkText.{MarkText}
use Rattle.resume_core.specs.Marks.{mark_at, other_mark, other_marks, own_mark, told_bytes}

-- ---- a rewind's own mark

-- a file there tells by its bytes
pub own-told : (mark : PathValue) (o : Option Entry) (bytes : List ℕ) (told : MarkText) → Some bytes ≡ all_of (file_of o) → told ≡ mark_told bytes → own_mark mark o ≡ told_bytes mark bytes told
own-told mark None bytes told is so = cc is
own-told mark (Some (FolderEntry bad)) bytes told is so = cc is
own-told mark (Some LinkEntry) bytes told is so = cc is
own-told mark (Some (FileEntry held)) bytes told is so =
    let same : held ≡ bytes = cc is in
    subst (λ b. own_mark mark (Some (FileEntry b)) ≡ told_bytes mark bytes told) (sym same) (ap (told_bytes mark bytes) (sym so))

-- .. that was read whole
pub own-read : {A : Type 0} (c : Contents) (mark path : PathValue) (found : Option (Vec ℕ A)) (bytes : Vec ℕ A) (told : MarkText) → path ≡ mark → found ≡ Some bytes
    → option_map (λ b. b.items) found ≡ all_of (file_of (entry_at c path)) → told ≡ mark_told bytes.items → own_mark mark (entry_at c mark) ≡ told_bytes mark bytes.items told
own-read c mark path found bytes told at is read so =
    own-told mark (entry_at c mark) bytes.items told (sym (ap (option_map (λ b. b.items)) is) ∙ read ∙ ap (λ p. all_of (file_of (entry_at c p))) at) so

-- ---- the paths of marks

own-at : (root : PathValue) → path_in root (codes "pg_rewind.unfinished") ≡ (marks_of root).rewind
unfolding path_in
own-at root = refl

replay-at : (root : PathValue) → path_in root (codes "pg_walreplay.unfinished") ≡ (marks_of root).replay
unfolding path_in
replay-at root = refl

reset-at : (root : PathValue) → path_in root (codes "pg_resetwal.unfinished") ≡ (marks_of root).reset
unfolding path_in
reset-at root = refl

first-one : (o : Option ClusterFault) → first_of (o ∷ []) ≡ o
unfolding first_of
first-one None = refl
first-one (Some e) = refl

-- ---- the marks of a target, in turn

module _ (c : Contents) (root mark : PathValue) (is : mark ≡ path_in root (codes "pg_rewind.unfinished")) where
  here : mark ≡ (marks_of root).rewind
  here = is ∙ own-at root

  own-here : own_mark mark (entry_at c mark) ≡ own_mark (marks_of root).rewind (entry_at c (marks_of root).rewind)
  own-here = ap (λ p. own_mark p (entry_at c p)) here

  with-own : (r : Result (Option (List ℕ)) ClusterFault) → own_mark mark (entry_at c mark) ≡ r → mark_at c root ≡ given r (λ bytes. unless (other_marks c (marks_of root)) (Ok bytes))
  with-own r own = ap (λ o. given o (λ bytes. unless (other_marks c (marks_of root)) (Ok bytes))) (sym own-here ∙ own)

  pub own-refused : (e : ClusterFault) → IsFree e ⊎ (own_mark mark (entry_at c mark) ≡ Err e) → IsFree e ⊎ (mark_at c root ≡ Err e)
  own-refused e (inl free) = inl free
  own-refused e (inr refused) = inr (with-own (Err e) refused)

  module _ (found : Option (List ℕ)) (own : own_mark mark (entry_at c mark) ≡ Ok found) where
    pub others-refused : (e : ClusterFault) → IsFree e ⊎ (other_marks c (marks_of root) ≡ Some e) → IsFree e ⊎ (mark_at c root ≡ Err e)
    others-refused e (inl free) = inl free
    others-refused e (inr refused) = inr (with-own (Ok found) own ∙ ap (λ o. unless o (Ok found)) refused)

    pub mark-found : other_marks c (marks_of root) ≡ None → mark_at c root ≡ Ok found
    mark-found none = with-own (Ok found) own ∙ ap (λ o. unless o (Ok found)) none

-- what is known of the fault that a callee gave holds of the one that is handed on
pub handed-mark : {A : Type 0} (P : Result A ClusterFault → Type 0) (r : Result A ClusterFault) (e : ClusterFault) → ((f : ClusterFault) × (r ≡ Err f) × (f ≡ e)) → P (Err e) → P r
handed-mark P r e (f, is, same) h = subst P (sym (is ∙ ap Err same)) h

-- ---- the marks of other commands, in turn

module _ (c : Contents) (root replay reset : PathValue) (first : replay ≡ path_in root (codes "pg_walreplay.unfinished")) where
  first-is : other_mark c replay ≡ other_mark c (marks_of root).replay
  first-is = ap (other_mark c) (first ∙ replay-at root)

  pub replay-refused : (e : ClusterFault) → IsFree e ⊎ (other_mark c replay ≡ Some e) → IsFree e ⊎ (other_marks c (marks_of root) ≡ Some e)
  replay-refused e (inl free) = inl free
  replay-refused e (inr refused) = inr (first_of-some (other_mark c (marks_of root).replay) e (other_mark c (marks_of root).reset ∷ []) (sym first-is ∙ refused))

  pub replay-passed : (r : Result (Unit {0}) ClusterFault) → reset ≡ path_in root (codes "pg_resetwal.unfinished") → other_mark c replay ≡ None → Passes IsFree (other_mark c reset) r → Passes IsFree (other_marks c (marks_of root)) r
  replay-passed r second none passes =
      let rest = other_mark c (marks_of root).reset in
      subst (λ o. Passes IsFree o r) (sym (first_of-none (other_mark c (marks_of root).replay) (rest ∷ []) (sym first-is ∙ none) ∙ first-one rest)) (subst (λ p. Passes IsFree (other_mark c p) r) (second ∙ reset-at root) passes)

-- a count that rose at the end rose on the whole way
pub rose-later : (a b c : ℕ) → a ≤ b → b ≤ c → Rose b c → Rose a c
rose-later a b c h k rose = grind arith

-- and a fault is the same one, whatever else an answer can be
pub same-fault : {A B : Type 0} (e f : ClusterFault) → IsErrOf {T = A} (Err e) f → IsErrOf {T = B} (Err e) f
same-fault e f is = let same : e ≡ f = cc is in ap (λ x. Err x) same
