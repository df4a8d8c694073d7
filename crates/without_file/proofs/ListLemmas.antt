-- What lies in a folder where a file isn't seen.
use Rattle.std.proofs.Common.{◌≡◌, ◌≢◌, ◌<◌, ℕ, Bool, true, false, not, ◌&&◌, cond, List, [], ◌∷◌, ◌++◌, filter, length, Option, Some, None, Result, Ok, Err, IfOk, refl, ap, sym, ◌∙◌, subst, inl, inr, is_some, bytes_eq, true≢false}
use Rattle.std.proofs.lemmas.List.Kept.{IsStrictlySortedBy-filter}
use Rattle.std.proofs.lemmas.Slice.Eq.{bytes_eq-Decides}
use Rattle.std.specs.FinMap.{get, remove}
use Rattle.std.specs.List.{list_all}
use Rattle.std.specs.Ordering.{nat_cmp}
use Rattle.std.specs.Cmp.Lexicographic.{slice_cmp}
use Rattle.cluster_tree.specs.Causes.{Passes}
use Rattle.cluster_tree.specs.Contents.{Contents, Entry, FileEntry, FolderEntry, LinkEntry, entry_at, is_file}
use Rattle.cluster_tree.specs.Folders.{IsListing, list_refusal}
use Rattle.cluster_tree.specs.PathValue.{PathValue, below}
use Rattle.cluster_tree.specs.PathOrder.{path_eq}
use Rattle.cluster_tree.specs.Tree.{IsFreeOfListing, kind_of}
use Rattle.cluster_tree.specs.declared.tree.Kind.TheVariants as kind
use Rattle.cluster_tree.specs.declared.tree.TreeFault.{TreeFault}
use Rattle.cluster_tree.specs.declared.tree.TreeFault.TheVariants as fault
use Rattle.cluster_tree.proofs.ContentsLemmas.{get-removed, get-removed_other}
use Rattle.without_file.specs.Without.{others, seen, tells_file, unlisted, without_file}
use Rattle.without_file.proofs.NameLemmas.{others-members}
use Rattle.without_file.proofs.SeenLemmas.{entry-seen}

unlisted_free : (B : Type 0) (refusal : Option TreeFault) (e : TreeFault) → IsFreeOfListing e → Passes IsFreeOfListing refusal (unlisted {A = B} true (Err e))
unlisted_free B refusal e (inl is) = subst (λ x. Passes IsFreeOfListing refusal (unlisted {A = B} true (Err x))) (sym is) (inl (inl refl))
unlisted_free B refusal e (inr (inl is)) = subst (λ x. Passes IsFreeOfListing refusal (unlisted {A = B} true (Err x))) (sym is) (inl (inr (inl refl)))
unlisted_free B refusal e (inr (inr never)) = absurd never

inj_some : (d e : TreeFault) → ◌≡◌ {A = Option TreeFault} (Some d) (Some e) → d ≡ e
inj_some d e q = cc q

-- why a folder isn't listed
list_met : {B : Type 0} (o : Option Entry) (found : Result B TreeFault) → Passes IsFreeOfListing (list_refusal o) found → Passes IsFreeOfListing (list_refusal (seen true o)) (unlisted true found)
list_met None (Ok v) m = cc m
list_met {B = B} None (Err e) (inl free) = unlisted_free B (Some fault.Absent) e free
list_met {B = B} None (Err e) (inr m) = subst (λ x. Passes IsFreeOfListing (Some fault.Absent) (unlisted {A = B} true (Err x))) (inj_some fault.Absent e m) (inr refl)
list_met (Some (FolderEntry bad)) (Ok v) m = m
list_met {B = B} (Some (FolderEntry bad)) (Err e) (inl free) = unlisted_free B (cond bad (Some fault.NameNotText) None) e free
list_met {B = B} (Some (FolderEntry true)) (Err e) (inr m) = subst (λ x. Passes IsFreeOfListing (Some fault.NameNotText) (unlisted {A = B} true (Err x))) (inj_some fault.NameNotText e m) (inr refl)
list_met (Some (FolderEntry false)) (Err e) (inr m) = cc m
list_met (Some (FileEntry bytes)) (Ok v) m = cc m
list_met {B = B} (Some (FileEntry bytes)) (Err e) (inl free) = unlisted_free B (Some fault.Absent) e free
list_met {B = B} (Some (FileEntry bytes)) (Err e) (inr m) = subst (λ x. Passes IsFreeOfListing (Some fault.Absent) (unlisted {A = B} true (Err x))) (inj_some fault.NotFolder e m) (inr refl)
list_met (Some LinkEntry) (Ok v) m = cc m
list_met {B = B} (Some LinkEntry) (Err e) (inl free) = unlisted_free B (Some fault.Link) e free
list_met {B = B} (Some LinkEntry) (Err e) (inr m) = subst (λ x. Passes IsFreeOfListing (Some fault.Link) (unlisted {A = B} true (Err x))) (inj_some fault.Link e m) (inr refl)

list_by : {B : Type 0} (same : Bool) (o : Option Entry) (found : Result B TreeFault) → Passes IsFreeOfListing (list_refusal o) found → Passes IsFreeOfListing (list_refusal (seen same o)) (unlisted same found)
list_by true o found m = list_met o found m
list_by false o found m = m

pub list-answer : {B : Type 0} (c : Contents) (f p : PathValue) → 0 < length f.parts → (same : Bool) → same ≡ path_eq p f → (found result : Result B TreeFault) → Passes IsFreeOfListing (list_refusal (entry_at c p)) found → result ≡ unlisted same found → Passes IsFreeOfListing (list_refusal (entry_at (without_file c f) p)) result
list-answer c f p deep same is found result m made =
    subst (λ o. Passes IsFreeOfListing (list_refusal o) result) (sym (entry-seen c f p deep ∙ ap (λ b. seen b (entry_at c p)) (sym is)))
    (subst (Passes IsFreeOfListing (list_refusal (seen same (entry_at c p)))) (sym made) (list_by same (entry_at c p) found m))

get_other : (c : Contents) (f q : PathValue) (b : Bool) → q ≢ f → get (cond b (remove c f) c) q ≡ get c q
get_other c f q true n = get-removed_other c f q n
get_other c f q false n = refl

-- a folder that the file doesn't lie in
pub listing-outside : (c : Contents) (f p : PathValue) (names : List (List ℕ)) → IsListing c p names → ((name : List ℕ) → below p (name ∷ []) ≢ f) → IsListing (without_file c f) p names
listing-outside c f p names l out = record {
  ascending = l.ascending;
  members = λ n. l.members n ∙ ap is_some (sym (get_other c f (below p (n ∷ [])) (is_file (entry_at c f)) (out n)));
}

rest : List (List ℕ) → List (List ℕ)
rest [] = []
rest (x ∷ xs) = xs

last_same : (xs : List (List ℕ)) (x y : List ℕ) → xs ++ x ∷ [] ≡ xs ++ y ∷ [] → x ≡ y
unfolding rest
last_same [] x y e = cc e
last_same (a ∷ xs) x y e = last_same xs x y (ap rest e)

and_false : (b : Bool) → b && false ≡ false
and_false true = refl
and_false false = refl

and_true : (b : Bool) → b && true ≡ b
and_true true = refl
and_true false = refl

member : (c : Contents) (p : PathValue) (n name : List ℕ) (t : Bool) → bytes_eq n name ≡ t → is_some (get c (below p (n ∷ []))) && not t ≡ is_some (get (remove c (below p (name ∷ []))) (below p (n ∷ [])))
member c p n name true e =
    and_false (is_some (get c (below p (n ∷ []))))
    ∙ ap is_some (sym (ap (λ x. get (remove c (below p (name ∷ []))) (below p (x ∷ []))) ((bytes_eq-Decides n name).0 e) ∙ get-removed c (below p (name ∷ []))))
member c p n name false e =
    and_true (is_some (get c (below p (n ∷ []))))
    ∙ ap is_some (sym (get-removed_other c (below p (name ∷ [])) (below p (n ∷ [])) (λ q. true≢false (sym ((bytes_eq-Decides n name).1 (last_same p.parts n name (ap (λ x. x.parts) q))) ∙ e))))

without_there : (c : Contents) (f : PathValue) → is_file (entry_at c f) ≡ true → without_file c f ≡ remove c f
without_there c f e = ap (λ b. cond b (remove c f) c) e

inside_at : (c : Contents) (p : PathValue) (name : List ℕ) (names : List (List ℕ)) → IsListing c p names → IsListing (remove c (below p (name ∷ []))) p (others name names)
inside_at c p name names l = record {
  ascending = IsStrictlySortedBy-filter (slice_cmp nat_cmp) (λ n. not (bytes_eq n name)) names l.ascending;
  members = λ n. others-members (λ x y e. (bytes_eq-Decides x y).0 e) n name names ∙ ap (λ b. b && not (bytes_eq n name)) (l.members n) ∙ member c p n name (bytes_eq n name) refl;
}

-- the folder that it lies in
pub listing-inside : (c : Contents) (f p : PathValue) (name : List ℕ) (names : List (List ℕ)) → IsListing c p names → f ≡ below p (name ∷ []) → is_file (entry_at c f) ≡ true → IsListing (without_file c f) p (others name names)
listing-inside c f p name names l is file =
    subst (λ d. IsListing d p (others name names)) (sym (without_there c f file))
    (subst (λ q. IsListing (remove c q) p (others name names)) (sym is) (inside_at c p name names l))

pub file_kind : (o : Option Entry) → kind_of o ≡ Ok kind.File → is_file o ≡ true
file_kind None e = cc e
file_kind (Some (FolderEntry _)) e = cc e
file_kind (Some (FileEntry _)) e = refl
file_kind (Some LinkEntry) e = cc e

all_kept : (p q : List ℕ → Bool) (xs : List (List ℕ)) → list_all p xs ≡ true → list_all p (filter q xs) ≡ true
all_kept p q [] e = refl
all_kept p q (x ∷ xs) e =
    elim (q x) as (λ b. list_all p (cond b (x ∷ filter q xs) (filter q xs)) ≡ true) [
      | true ↦ both (p x) (list_all p xs) e (λ here later. ap (λ b. b && list_all p (filter q xs)) here ∙ all_kept p q xs later)
      | false ↦ both (p x) (list_all p xs) e (λ here later. all_kept p q xs later)
    ]
  where
    both : {P : Type 0} (a b : Bool) → a && b ≡ true → (a ≡ true → b ≡ true → P) → P
    both true b e f = f refl e
    both false b e f = absurd (true≢false (sym e))

pub others-parts : (p : List ℕ → Bool) (name : List ℕ) (xs : List (List ℕ)) → list_all p xs ≡ true → list_all p (others name xs) ≡ true
others-parts p name xs e = all_kept p (λ n. not (bytes_eq n name)) xs e

no_err : {B P : Type 0} (b : Bool) (d e : TreeFault) (v : B) → ◌≡◌ {A = Result B TreeFault} (Ok v) (cond b (Err d) (Err e)) → P
no_err true d e v q = cc q
no_err false d e v q = cc q

-- what is listed was listed
pub listed : {B : Type 0} (same : Bool) (found : Result B TreeFault) (v : B) → Ok v ≡ unlisted same found → found ≡ Ok v
listed true (Ok w) v e = sym e
listed true (Err d) v e = no_err (tells_file d) fault.Absent d v e
listed false found v e = sym e

pub ok_of : {B : Type 0} (P : B → Type 0) (found : Result B TreeFault) (v : B) → found ≡ Ok v → IfOk found P → P v
ok_of P found v e h = subst (λ r. IfOk r P) e h
