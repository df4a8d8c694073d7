-- What is listed of the root.
use Rattle.std.proofs.Common.{◌≡◌, ◌⊎◌, ℕ, Bool, true, false, cond, List, [], ◌∷◌, ◌++◌, codes, filter, Option, Some, None, Result, Ok, Err, IfErr, IfOk, is_some, refl, ap, sym, ◌∙◌, subst, inl, inr, append_assoc}
use Rattle.std.specs.FinMap.{get}
use Rattle.cluster_tree.specs.Causes.{Passes}
use Rattle.cluster_tree.specs.Contents.{Contents, Entry, FileEntry, FolderEntry, LinkEntry, entry_at}
use Rattle.cluster_tree.specs.Folders.{IsListing, list_refusal}
use Rattle.cluster_tree.specs.PathValue.{PathValue, below, is_part, kept_parts}
use Rattle.cluster_tree.specs.Tree.{HasFailed, IsFreeOfListing, kind_of}
use Rattle.cluster_tree.specs.declared.tree.Kind.{Kind}
use Rattle.cluster_tree.specs.declared.tree.Kind.TheVariants as kind
use Rattle.cluster_tree.specs.declared.tree.TreeFault.{TreeFault}
use Rattle.cluster_tree.specs.declared.tree.TreeFault.TheVariants as fault
use Rattle.cluster_tree.proofs.PartLemmas.{part_kept}
use Rattle.areas_alone.specs.Alone.{area_names, areas_in, areas_of}
use Rattle.areas_alone.specs.Shown.{entry-root, sound}
use Rattle.areas_alone.proofs.ShownLemmas.{listing-root, some_of}

-- whether something stands there, by its kind
some_by : (o : Option Entry) → Result Kind TreeFault → Type 0
some_by o (Ok kind.Absent) = false ≡ is_some o
some_by o (Ok kind.File) = true ≡ is_some o
some_by o (Ok kind.Folder) = true ≡ is_some o
some_by o (Err e) = true ≡ is_some o

by_kind : (o : Option Entry) → some_by o (kind_of o)
unfolding some_by
by_kind None = refl
by_kind (Some (FolderEntry bad)) = refl
by_kind (Some (FileEntry bytes)) = refl
by_kind (Some LinkEntry) = refl

module _ (c : Contents) (root path : PathValue) (name : List ℕ) (is : path ≡ below root (kept_parts name)) (proper : is_part name ≡ true) where
  named : path ≡ below root (name ∷ [])
  named = is ∙ ap (below root) (part_kept name proper)

  there : is_some (entry_at c path) ≡ is_some (get c (below root (name ∷ [])))
  there = ap (λ (p : PathValue). is_some (entry_at c p)) named ∙ ap is_some (some_of root.parts name (get c (below root (name ∷ []))))

  pub none_there : kind_of (entry_at c path) ≡ Ok kind.Absent → false ≡ is_some (get c (below root (name ∷ [])))
  unfolding some_by
  none_there e = subst (some_by (entry_at c path)) e (by_kind (entry_at c path)) ∙ there

  pub file_there : kind_of (entry_at c path) ≡ Ok kind.File → true ≡ is_some (get c (below root (name ∷ [])))
  unfolding some_by
  file_there e = subst (some_by (entry_at c path)) e (by_kind (entry_at c path)) ∙ there

  pub folder_there : kind_of (entry_at c path) ≡ Ok kind.Folder → true ≡ is_some (get c (below root (name ∷ [])))
  unfolding some_by
  folder_there e = subst (some_by (entry_at c path)) e (by_kind (entry_at c path)) ∙ there

  pub link_there : (e : TreeFault) → e ≡ fault.Link → HasFailed e ⊎ (kind_of (entry_at c path) ≡ Err e) → true ≡ is_some (get c (below root (name ∷ [])))
  unfolding some_by
  link_there e link (inl failed) = let wrong : fault.Link ≡ fault.Failed = sym link ∙ failed in absurd (cc wrong)
  link_there e link (inr is_link) = subst (some_by (entry_at c path)) is_link (by_kind (entry_at c path)) ∙ there

-- the names one after another
picked : (p : List ℕ → Bool) (x : List ℕ) (xs : List (List ℕ)) (b : Bool) → cond b (x ∷ []) [] ++ filter p xs ≡ cond b (x ∷ filter p xs) (filter p xs)
picked p x xs true = refl
picked p x xs false = refl

next_name : (p : List ℕ → Bool) (front : List (List ℕ)) (x : List ℕ) (xs : List (List ℕ)) → (front ++ cond (p x) (x ∷ []) []) ++ filter p xs ≡ front ++ filter p (x ∷ xs)
next_name p front x xs = append_assoc front (cond (p x) (x ∷ []) []) (filter p xs) ∙ ap (λ l. front ++ l) (picked p x xs (p x))

none_left : {A : Type 0} (xs : List A) → xs ++ [] ≡ xs
none_left [] = refl
none_left (x ∷ xs) = ap (λ l. x ∷ l) (none_left xs)

abbrev pub one_of : Contents → PathValue → List ℕ → List (List ℕ)
one_of c root name = cond (is_some (get c (below root (name ∷ [])))) (name ∷ []) []

pub all_names : (c : Contents) (root : PathValue) (none one two three four : List (List ℕ)) → none ≡ [] → one ≡ none ++ one_of c root (codes "base") → two ≡ one ++ one_of c root (codes "global") → three ≡ two ++ one_of c root (codes "pg_multixact")
    → four ≡ three ++ one_of c root (codes "pg_xact") → four ≡ areas_in c root
unfolding areas_in
all_names c root none one two three four e f g h i =
    let p : List ℕ → Bool = λ name. is_some (get c (below root (name ∷ []))) in
    sym (none_left four)
    ∙ ap (λ l. l ++ []) i ∙ next_name p three (codes "pg_xact") []
    ∙ ap (λ l. l ++ filter p (codes "pg_xact" ∷ [])) h ∙ next_name p two (codes "pg_multixact") (codes "pg_xact" ∷ [])
    ∙ ap (λ l. l ++ filter p (codes "pg_multixact" ∷ codes "pg_xact" ∷ [])) g ∙ next_name p one (codes "global") (codes "pg_multixact" ∷ codes "pg_xact" ∷ [])
    ∙ ap (λ l. l ++ filter p (codes "global" ∷ codes "pg_multixact" ∷ codes "pg_xact" ∷ [])) f ∙ next_name p none (codes "base") (codes "global" ∷ codes "pg_multixact" ∷ codes "pg_xact" ∷ [])
    ∙ ap (λ l. l ++ filter p area_names) e

pub one_more : (d c : Contents) (root : PathValue) (name : List ℕ) (old new : List (List ℕ)) → d ≡ c → new ≡ old ++ one_of d root name → new ≡ old ++ one_of c root name
one_more d c root name old new same e = e ∙ ap (λ x. old ++ one_of x root name) same

-- what list answers of the root
pub listed_so : (d c : Contents) (root : PathValue) (r : Result (List (List ℕ)) TreeFault) → d ≡ c → IfOk r (λ names. names ≡ areas_in d root) → IfOk r (IsListing (areas_of c root) root)
listed_so d c root (Ok names) same is = listing-root c root names (is ∙ ap (λ x. areas_in x root) same)
listed_so d c root (Err e) same is = tt

-- why it isn't listed, by its kind
refused_by : (o : Option Entry) → Result Kind TreeFault → Type 0
refused_by o (Ok kind.Absent) = list_refusal (sound o) ≡ Some fault.Absent
refused_by o (Ok kind.File) = list_refusal (sound o) ≡ Some fault.NotFolder
refused_by o (Ok kind.Folder) = list_refusal (sound o) ≡ None
refused_by o (Err e) = list_refusal (sound o) ≡ Some e

by_its_kind : (o : Option Entry) → refused_by o (kind_of o)
unfolding refused_by
by_its_kind None = refl
by_its_kind (Some (FolderEntry bad)) = refl
by_its_kind (Some (FileEntry bytes)) = refl
by_its_kind (Some LinkEntry) = refl

module _ (c : Contents) (root : PathValue) where
  refusal_is : list_refusal (entry_at (areas_of c root) root) ≡ list_refusal (sound (entry_at c root))
  refusal_is = ap list_refusal (entry-root c root)

  pub absent_root : kind_of (entry_at c root) ≡ Ok kind.Absent → list_refusal (entry_at (areas_of c root) root) ≡ Some fault.Absent
  unfolding refused_by
  absent_root e = refusal_is ∙ subst (refused_by (entry_at c root)) e (by_its_kind (entry_at c root))

  pub file_root : kind_of (entry_at c root) ≡ Ok kind.File → list_refusal (entry_at (areas_of c root) root) ≡ Some fault.NotFolder
  unfolding refused_by
  file_root e = refusal_is ∙ subst (refused_by (entry_at c root)) e (by_its_kind (entry_at c root))

  pub folder_root : {B : Type 0} → kind_of (entry_at c root) ≡ Ok kind.Folder → (r : Result B TreeFault) → IfErr r IsFreeOfListing → Passes IsFreeOfListing (list_refusal (entry_at (areas_of c root) root)) r
  unfolding refused_by
  folder_root e (Ok v) free = refusal_is ∙ subst (refused_by (entry_at c root)) e (by_its_kind (entry_at c root))
  folder_root e (Err f) free = inl free

  pub refused_root : (e : TreeFault) → HasFailed e ⊎ (kind_of (entry_at c root) ≡ Err e) → IsFreeOfListing e ⊎ (list_refusal (entry_at (areas_of c root) root) ≡ Some e)
  unfolding refused_by
  refused_root e (inl failed) = inl (inl failed)
  refused_root e (inr is) = inr (refusal_is ∙ subst (refused_by (entry_at c root)) is (by_its_kind (entry_at c root)))
