-- What the calls of a tree leave, one after another, at their path and at every other.
use Rattle.std.proofs.Common.{◌≡◌, ◌≢◌, ◌≤◌, ℕ, Bool, true, false, cond, nat_lt, List, [], length, take, Some, None, refl, ap, sym, ◌∙◌, arith, rules}
use Rattle.std.proofs.lemmas.Grind.{common_steps}
use Rattle.std.specs.FinMap.{get, insert, remove, get-insert, get-remove, same_map}
use Rattle.cluster_tree.specs.PathValue.{PathValue}
use Rattle.cluster_tree.specs.Contents.{Entry, or_root, FileEntry, Contents, entry_at}
use Rattle.layout.specs.Splice.{splice}
use Rattle.cluster_tree.specs.Tree.{written, write_refusal, shortened, cut_refusal, refusal_past, file_of, bytes_in}
use Rattle.cluster_tree.specs.declared.tree.TreeFault.TheVariants as fault
use Rattle.cluster_tree.specs.PathOrder.{path_eq}
use Rattle.cluster_tree.proofs.OrderLemmas.{path_cmp_total, path_cmp-IsAntisymmetric, path_eq-own, path_eq-other}

insert-at : (c : Contents) (p q : PathValue) (v : Entry) → get (insert c p v) q ≡ cond (path_eq q p) (Some v) (get c q)
unfolding path_eq
insert-at c p q v = get-insert path_cmp_total c p v q

remove-at : (c : Contents) (p q : PathValue) → get (remove c p) q ≡ cond (path_eq q p) None (get c q)
unfolding path_eq
remove-at c p q = get-remove path_cmp_total c p q

pub get-put : (c : Contents) (p : PathValue) (v : Entry) → get (insert c p v) p ≡ Some v
get-put c p v = insert-at c p p v ∙ ap (λ b. cond b (Some v) (get c p)) (path_eq-own p)

pub get-put_other : (c : Contents) (p q : PathValue) (v : Entry) → q ≢ p → get (insert c p v) q ≡ get c q
get-put_other c p q v n = insert-at c p q v ∙ ap (λ b. cond b (Some v) (get c q)) (path_eq-other q p n)

pub get-removed : (c : Contents) (p : PathValue) → get (remove c p) p ≡ None
get-removed c p = remove-at c p p ∙ ap (λ b. cond b None (get c p)) (path_eq-own p)

pub get-removed_other : (c : Contents) (p q : PathValue) → q ≢ p → get (remove c p) q ≡ get c q
get-removed_other c p q n = remove-at c p q ∙ ap (λ b. cond b None (get c q)) (path_eq-other q p n)

-- contents that hold the same at every path
pub same-contents : (c d : Contents) → ((q : PathValue) → get c q ≡ get d q) → c ≡ d
same-contents c d same = same_map path_cmp_total path_cmp-IsAntisymmetric c d same

twice : {A : Type 0} (b : Bool) (x y z : A) → cond b x (cond b y z) ≡ cond b x z
twice true x y z = refl
twice false x y z = refl

pub put-put : (c : Contents) (p : PathValue) (v w : Entry) → insert (insert c p v) p w ≡ insert c p w
put-put c p v w = same-contents _ _ (λ q. insert-at (insert c p v) p q w ∙ ap (cond (path_eq q p) (Some w)) (insert-at c p q v) ∙ twice (path_eq q p) (Some w) (Some v) (get c q) ∙ sym (insert-at c p q w))

pub put-removed : (c : Contents) (p : PathValue) (w : Entry) → insert (remove c p) p w ≡ insert c p w
put-removed c p w = same-contents _ _ (λ q. insert-at (remove c p) p q w ∙ ap (cond (path_eq q p) (Some w)) (remove-at c p q) ∙ twice (path_eq q p) (Some w) None (get c q) ∙ sym (insert-at c p q w))

pub removed-put : (c : Contents) (p : PathValue) (v : Entry) → remove (insert c p v) p ≡ remove c p
removed-put c p v = same-contents _ _ (λ q. remove-at (insert c p v) p q ∙ ap (cond (path_eq q p) None) (insert-at c p q v) ∙ twice (path_eq q p) None (Some v) (get c q) ∙ sym (remove-at c p q))

-- a write to a file that was put there
pub written-put : (c : Contents) (p : PathValue) (old bytes : List ℕ) (at : ℕ) → written (insert c p (FileEntry old)) p at bytes ≡ insert c p (FileEntry (splice old at bytes))
written-put c p old bytes at =
    put-put c p (FileEntry old) _ ∙ ap (λ o. insert c p (FileEntry (splice (bytes_in (or_root p.parts o)) at bytes))) (get-put c p (FileEntry old))

-- a cut of a file that was put there
pub shortened-put : (c : Contents) (p : PathValue) (old : List ℕ) (size : ℕ) → shortened (insert c p (FileEntry old)) p size ≡ insert c p (FileEntry (take size old))
shortened-put c p old size = put-put c p (FileEntry old) _ ∙ ap (λ o. insert c p (FileEntry (take size (bytes_in (or_root p.parts o))))) (get-put c p (FileEntry old))

not_past : (n at : ℕ) → at ≤ n → nat_lt n at ≡ false
not_past n at l = grind (arith, rules)

-- neither is refused
pub write_refusal-put : (c : Contents) (p : PathValue) (old : List ℕ) (at : ℕ) → at ≤ length old → write_refusal (insert c p (FileEntry old)) p at ≡ None
write_refusal-put c p old at l = ap (λ o. refusal_past (file_of (or_root p.parts o)) at) (get-put c p (FileEntry old)) ∙ ap (λ b. cond b (Some fault.PastEnd) None) (not_past (length old) at l)

pub cut_refusal-put : (c : Contents) (p : PathValue) (old : List ℕ) (size : ℕ) → size ≤ length old → cut_refusal (insert c p (FileEntry old)) p size ≡ None
cut_refusal-put c p old size l = write_refusal-put c p old size l

pub spliced-into_none : (bytes : List ℕ) → splice [] 0 bytes ≡ bytes
unfolding splice
spliced-into_none bytes = grind (arith, common_steps)

-- the first write to a new file
pub written-new : (c : Contents) (p : PathValue) (bytes : List ℕ) → written (insert c p (FileEntry [])) p 0 bytes ≡ insert c p (FileEntry bytes)
written-new c p bytes = written-put c p [] bytes 0 ∙ ap (λ b. insert c p (FileEntry b)) (spliced-into_none bytes)

pub write_refusal-new : (c : Contents) (p : PathValue) → write_refusal (insert c p (FileEntry [])) p 0 ≡ None
write_refusal-new c p = write_refusal-put c p [] 0 (omega arith)

-- a file that is cut to nothing is an empty one
pub shortened-all : (c : Contents) (p : PathValue) → shortened c p 0 ≡ insert c p (FileEntry [])
shortened-all c p = refl

pub entry-put : (c : Contents) (p : PathValue) (v : Entry) → entry_at (insert c p v) p ≡ Some v
entry-put c p v = ap (or_root p.parts) (get-put c p v)

pub entry-put_other : (c : Contents) (p q : PathValue) (v : Entry) → q ≢ p → entry_at (insert c p v) q ≡ entry_at c q
entry-put_other c p q v n = ap (or_root q.parts) (get-put_other c p q v n)

pub entry-removed : (c : Contents) (p : PathValue) → entry_at (remove c p) p ≡ or_root p.parts None
entry-removed c p = ap (or_root p.parts) (get-removed c p)

pub entry-removed_other : (c : Contents) (p q : PathValue) → q ≢ p → entry_at (remove c p) q ≡ entry_at c q
entry-removed_other c p q n = ap (or_root q.parts) (get-removed_other c p q n)

pub ruleset contents_steps = (get-put, get-removed, put-put, put-removed, removed-put, written-put, written-new, shortened-put, shortened-all, write_refusal-put, write_refusal-new, cut_refusal-put)
