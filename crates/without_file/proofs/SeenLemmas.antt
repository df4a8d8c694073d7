-- What stands where a file isn't seen, and what the calls answer of it.
use Rattle.std.proofs.Common.{◌≡◌, ◌≢◌, ◌<◌, ℕ, ◌+◌, nat_lt, Bool, true, false, cond, List, [], ◌∷◌, length, Option, Some, None, Result, Ok, Err, refl, ap, sym, ◌∙◌, subst, inl, inr, arith, rules}
use Rattle.std.specs.FinMap.{remove}
use Rattle.cluster_tree.specs.Causes.{Meets, MeetsInto}
use Rattle.cluster_tree.specs.Contents.{Contents, Entry, FileEntry, FolderEntry, LinkEntry, entry_at, is_file, or_root}
use Rattle.cluster_tree.specs.PathValue.{PathValue}
use Rattle.cluster_tree.specs.PathOrder.{path_eq}
use Rattle.cluster_tree.specs.Tree.{HasFailed, file_of, kind_of, range_of, size_of}
use Rattle.cluster_tree.specs.declared.tree.Kind.{Kind}
use Rattle.cluster_tree.specs.declared.tree.TreeFault.{TreeFault}
use Rattle.cluster_tree.specs.declared.tree.TreeFault.TheVariants as fault
use Rattle.cluster_tree.proofs.ContentsLemmas.{entry-removed, entry-removed_other}
use Rattle.cluster_tree.proofs.OrderLemmas.{path_eq-own, path_eq-other}
use Rattle.cluster_tree.proofs.TreeLemmas.{same_or_other}
use Rattle.without_file.specs.Without.{seen, seen_kind, unseen, without_file}

no_root : (parts : List (List ℕ)) → 0 < length parts → or_root parts None ≡ None
no_root [] e = absurd (none e)
  where
    none : 0 < 0 → ⊥
    none e = grind (arith, rules, e)
no_root (part ∷ parts) e = refl

here : (c : Contents) (f : PathValue) (b : Bool) → is_file (entry_at c f) ≡ b → 0 < length f.parts → entry_at (cond b (remove c f) c) f ≡ cond b None (entry_at c f)
here c f true e deep = entry-removed c f ∙ no_root f.parts deep
here c f false e deep = refl

elsewhere : (c : Contents) (f p : PathValue) (b : Bool) → p ≢ f → entry_at (cond b (remove c f) c) p ≡ entry_at c p
elsewhere c f p true n = entry-removed_other c f p n
elsewhere c f p false n = refl

pub entry-seen : (c : Contents) (f p : PathValue) → 0 < length f.parts → entry_at (without_file c f) p ≡ seen (path_eq p f) (entry_at c p)
entry-seen c f p deep = same_or_other p f
    (λ e. ap (entry_at (without_file c f)) e ∙ here c f (is_file (entry_at c f)) refl deep ∙ ap (λ b. seen b (entry_at c f)) (sym (path_eq-own f)) ∙ ap (λ q. seen (path_eq q f) (entry_at c q)) (sym e))
    (λ n. elsewhere c f p (is_file (entry_at c f)) n ∙ ap (λ b. seen b (entry_at c p)) (sym (path_eq-other p f n)))

met-same : {A : Type 0} (meant r : Result A TreeFault) → meant ≡ r → Meets HasFailed meant r
met-same meant (Ok v) e = e
met-same meant (Err f) e = inr e

-- the kind of what is seen
kind_at : (o : Option Entry) → kind_of (seen true o) ≡ seen_kind true (kind_of o)
kind_at None = refl
kind_at (Some (FolderEntry _)) = refl
kind_at (Some (FileEntry _)) = refl
kind_at (Some LinkEntry) = refl

kind_met : (same : Bool) (o : Option Entry) (found : Result Kind TreeFault) → Meets HasFailed (kind_of o) found → Meets HasFailed (kind_of (seen same o)) (seen_kind same found)
kind_met false o found m = m
kind_met true o (Ok v) m = met-same (kind_of (seen true o)) (seen_kind true (Ok v)) (kind_at o ∙ ap (seen_kind true) m)
kind_met true o (Err e) (inl failed) = inl failed
kind_met true o (Err e) (inr m) = met-same (kind_of (seen true o)) (seen_kind true (Err e)) (kind_at o ∙ ap (seen_kind true) m)

pub kind-answer : (c : Contents) (f p : PathValue) → 0 < length f.parts → (same : Bool) → same ≡ path_eq p f → (found result : Result Kind TreeFault) → Meets HasFailed (kind_of (entry_at c p)) found → result ≡ seen_kind same found → Meets HasFailed (kind_of (entry_at (without_file c f) p)) result
kind-answer c f p deep same is found result m made =
    subst (λ o. Meets HasFailed (kind_of o) result) (sym (entry-seen c f p deep ∙ ap (λ b. seen b (entry_at c p)) (sym is)))
    (subst (Meets HasFailed (kind_of (seen same (entry_at c p)))) (sym made) (kind_met same (entry_at c p) found m))

-- its size
size_at : (o : Option Entry) → size_of (file_of (seen true o)) ≡ unseen true (size_of (file_of o))
size_at None = refl
size_at (Some (FolderEntry _)) = refl
size_at (Some (FileEntry _)) = refl
size_at (Some LinkEntry) = refl

size_met : (same : Bool) (o : Option Entry) (found : Result ℕ TreeFault) → Meets HasFailed (size_of (file_of o)) found → Meets HasFailed (size_of (file_of (seen same o))) (unseen same found)
size_met false o found m = m
size_met true o (Ok v) m = met-same (size_of (file_of (seen true o))) (unseen true (Ok v)) (size_at o ∙ ap (unseen true) m)
size_met true o (Err e) (inl failed) = subst (λ x. Meets HasFailed (size_of (file_of (seen true o))) (unseen true (Err x))) (sym failed) (inl refl)
size_met true o (Err e) (inr m) = met-same (size_of (file_of (seen true o))) (unseen true (Err e)) (size_at o ∙ ap (unseen true) m)

pub size-answer : (c : Contents) (f p : PathValue) → 0 < length f.parts → (same : Bool) → same ≡ path_eq p f → (found result : Result ℕ TreeFault) → Meets HasFailed (size_of (file_of (entry_at c p))) found → result ≡ unseen same found → Meets HasFailed (size_of (file_of (entry_at (without_file c f) p))) result
size-answer c f p deep same is found result m made =
    subst (λ o. Meets HasFailed (size_of (file_of o)) result) (sym (entry-seen c f p deep ∙ ap (λ b. seen b (entry_at c p)) (sym is)))
    (subst (Meets HasFailed (size_of (file_of (seen same (entry_at c p))))) (sym made) (size_met same (entry_at c p) found m))

-- its bytes
inj_err : {A : Type 0} (d e : TreeFault) → ◌≡◌ {A = Result A TreeFault} (Err d) (Err e) → d ≡ e
inj_err d e q = cc q

past_end : {A : Type 0} (b : Bool) (v : A) (e : TreeFault) → ◌≡◌ {A = Result A TreeFault} (cond b (Err fault.PastEnd) (Ok v)) (Err e) → fault.PastEnd ≡ e
past_end true v e q = inj_err fault.PastEnd e q
past_end false v e q = cc q

-- what is read of no file, where nothing stands or nothing is seen
none_met : (B : Type 0) (into : List ℕ) (e : TreeFault) → HasFailed e → MeetsInto HasFailed (Err fault.Absent) into (unseen {A = B} true (Err e))
none_met B into e failed = subst (λ x. MeetsInto HasFailed (Err fault.Absent) into (unseen {A = B} true (Err x))) (sym failed) (inl refl)

read_met : {B : Type 0} (o : Option Entry) (at n : ℕ) (into : List ℕ) (found : Result B TreeFault) → MeetsInto HasFailed (range_of (file_of o) at n) into found → MeetsInto HasFailed (range_of (file_of (seen true o)) at n) into (unseen true found)
read_met None at n into (Ok v) m = inr refl
read_met {B = B} None at n into (Err e) (inl failed) = none_met B into e failed
read_met {B = B} None at n into (Err e) (inr m) = subst (λ x. MeetsInto HasFailed (Err fault.Absent) into (unseen {A = B} true (Err x))) (inj_err fault.Absent e m) (inr refl)
read_met (Some (FolderEntry bad)) at n into (Ok v) m = cc m
read_met {B = B} (Some (FolderEntry bad)) at n into (Err e) (inl failed) = subst (λ x. MeetsInto HasFailed (Err fault.IsFolder) into (unseen {A = B} true (Err x))) (sym failed) (inl refl)
read_met {B = B} (Some (FolderEntry bad)) at n into (Err e) (inr m) = subst (λ x. MeetsInto HasFailed (Err fault.IsFolder) into (unseen {A = B} true (Err x))) (inj_err fault.IsFolder e m) (inr refl)
read_met (Some (FileEntry bytes)) at n into (Ok v) m = inr refl
read_met {B = B} (Some (FileEntry bytes)) at n into (Err e) (inl failed) = none_met B into e failed
read_met {B = B} (Some (FileEntry bytes)) at n into (Err e) (inr m) = subst (λ x. MeetsInto HasFailed (Err fault.Absent) into (unseen {A = B} true (Err x))) (past_end (nat_lt (length bytes) (at + n)) _ e m) (inr refl)
read_met (Some LinkEntry) at n into (Ok v) m = cc m
read_met {B = B} (Some LinkEntry) at n into (Err e) (inl failed) = subst (λ x. MeetsInto HasFailed (Err fault.Link) into (unseen {A = B} true (Err x))) (sym failed) (inl refl)
read_met {B = B} (Some LinkEntry) at n into (Err e) (inr m) = subst (λ x. MeetsInto HasFailed (Err fault.Link) into (unseen {A = B} true (Err x))) (inj_err fault.Link e m) (inr refl)

read_at : {B : Type 0} (same : Bool) (o : Option Entry) (at n : ℕ) (into : List ℕ) (found : Result B TreeFault) → MeetsInto HasFailed (range_of (file_of o) at n) into found → MeetsInto HasFailed (range_of (file_of (seen same o)) at n) into (unseen same found)
read_at true o at n into found m = read_met o at n into found m
read_at false o at n into found m = m

pub read-answer : {B : Type 0} (c : Contents) (f p : PathValue) → 0 < length f.parts → (same : Bool) → same ≡ path_eq p f → (at n : ℕ) (into : List ℕ) (found result : Result B TreeFault) → MeetsInto HasFailed (range_of (file_of (entry_at c p)) at n) into found → result ≡ unseen same found → MeetsInto HasFailed (range_of (file_of (entry_at (without_file c f) p)) at n) into result
read-answer c f p deep same is at n into found result m made =
    subst (λ o. MeetsInto HasFailed (range_of (file_of o) at n) into result) (sym (entry-seen c f p deep ∙ ap (λ b. seen b (entry_at c p)) (sym is)))
    (subst (MeetsInto HasFailed (range_of (file_of (seen same (entry_at c p))) at n) into) (sym made) (read_at same (entry_at c p) at n into found m))
