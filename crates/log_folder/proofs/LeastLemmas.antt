-- The least segment of a folder, and none.
use Rattle.std.proofs.Common.{◌≡◌, ◌⊎◌, ◌∙◌, ℕ, Bool, true, false, cond, ◌&&◌, ◌||◌, List, [], ◌∷◌, ◌++◌, find, bytes_eq, Option, None, Some, is_some, refl, ap, sym, inl, inr, true≢false}
use Rattle.std.specs.declared.cmp.Ordering.TheVariants.{Less}
use Rattle.std.specs.Ordering.{nat_cmp}
use Rattle.std.specs.Cmp.Lexicographic.{slice_cmp, bytes_decides}
use Rattle.std.specs.FinMap.{get}
use Rattle.std.specs.List.{AllByRecursion, list_any}
use Rattle.std.specs.List.Sorted.{IsStrictlySortedBy}
use Rattle.std.specs.Result.{is_ok}
use Rattle.cluster_tree.specs.PathValue.{PathValue, below}
use Rattle.cluster_tree.specs.Contents.{Contents, Entry, or_root, entry_at}
use Rattle.cluster_tree.specs.Folders.{names_in}
use Rattle.cluster_tree.specs.Tree.{file_of}
use Rattle.wal_base.specs.Hex.{is_long_name}
use Rattle.log_folder.specs.Listing.{is_segment, least_segment}
use Rattle.log_folder.specs.Laws.{IsLeast}
use Rattle.cluster_tree.proofs.NamesLemmas.{names_listing}

both : (a b : Bool) → a && b ≡ true → (a ≡ true) × (b ≡ true)
both true b e = (refl, e)
both false b e = absurd (true≢false (sym e))

no_root : (parts : List (List ℕ)) (name : List ℕ) → or_root (parts ++ name ∷ []) None ≡ None
no_root [] name = refl
no_root (part ∷ parts) name = refl

file_stands : (parts : List (List ℕ)) (name : List ℕ) (o : Option Entry) → is_ok (file_of (or_root (parts ++ name ∷ []) o)) ≡ true → is_some o ≡ true
file_stands parts name (Some entry) e = refl
file_stands parts name None e = absurd (true≢false (sym e ∙ ap (λ o. is_ok (file_of o)) (no_root parts name)))

-- a segment of a folder is one of its names
segment_named_in : (c : Contents) (folder : PathValue) (name : List ℕ) → is_segment c folder name ≡ true → list_any (bytes_eq name) (names_in c folder) ≡ true
unfolding is_segment
segment_named_in c folder name e =
    let two = both (is_long_name name) (is_ok (file_of (entry_at c (below folder (name ∷ []))))) e in
    (names_listing c folder).members name ∙ file_stands folder.parts name (get c (below folder (name ∷ []))) two.1

absent : {A : Type 0} (x : A) → None ≡ Some x → ⊥
absent x e = absurd cc

same : {A : Type 0} (x y : A) → Some x ≡ Some y → x ≡ y
same x y e = cc

-- the first name that passes a test, in a list that ascends, and one more that passes it
abbrev AtMost : List ℕ → List ℕ → Type 0
AtMost name other = (name ≡ other) ⊎ (slice_cmp nat_cmp name other ≡ Less)

below_each : (x : List ℕ) (ys : List (List ℕ)) (other : List ℕ) → AllByRecursion (λ y. slice_cmp nat_cmp x y ≡ Less) ys → list_any (bytes_eq other) ys ≡ true → slice_cmp nat_cmp x other ≡ Less
below_each x [] other h e = absurd (true≢false (sym e))
below_each x (y ∷ ys) other h e =
    elim (bytes_eq other y) as (λ t. bytes_eq other y ≡ t → (t || list_any (bytes_eq other) ys) ≡ true → slice_cmp nat_cmp x other ≡ Less) [
      | true ↦ λ is _. ap (slice_cmp nat_cmp x) ((bytes_decides other y).0 is) ∙ h.0
      | false ↦ λ _ rest. below_each x ys other h.1 rest
    ] refl e

found_least : (p : List ℕ → Bool) (xs : List (List ℕ)) (name other : List ℕ) → IsStrictlySortedBy (slice_cmp nat_cmp) xs → find p xs ≡ Some name → list_any (bytes_eq other) xs ≡ true → p other ≡ true → AtMost name other
unfolding IsStrictlySortedBy
found_least p [] name other up is e t = absurd (absent name is)
found_least p (x ∷ xs) name other up is e t =
    elim (p x) as (λ b. p x ≡ b → cond b (Some x) (find p xs) ≡ Some name → AtMost name other) [
      | true ↦ λ _ here. elim (bytes_eq other x) as (λ b. bytes_eq other x ≡ b → (b || list_any (bytes_eq other) xs) ≡ true → AtMost name other) [
        | true ↦ λ eq _. inl (sym (same x name here) ∙ sym ((bytes_decides other x).0 eq))
        | false ↦ λ _ rest. inr (ap (λ n. slice_cmp nat_cmp n other) (sym (same x name here)) ∙ below_each x xs other up.0 rest)
      ] refl e
      | false ↦ λ no there. elim (bytes_eq other x) as (λ b. bytes_eq other x ≡ b → (b || list_any (bytes_eq other) xs) ≡ true → AtMost name other) [
        | true ↦ λ eq _. absurd (true≢false (sym t ∙ ap p ((bytes_decides other x).0 eq) ∙ no))
        | false ↦ λ _ rest. found_least p xs name other up.1 there rest t
      ] refl e
    ] refl is

found_passes : (p : List ℕ → Bool) (xs : List (List ℕ)) (name : List ℕ) → find p xs ≡ Some name → p name ≡ true
found_passes p [] name is = absurd (absent name is)
found_passes p (x ∷ xs) name is =
    elim (p x) as (λ b. p x ≡ b → cond b (Some x) (find p xs) ≡ Some name → p name ≡ true) [
      | true ↦ λ t here. ap p (sym (same x name here)) ∙ t
      | false ↦ λ _ there. found_passes p xs name there
    ] refl is

found_none : (p : List ℕ → Bool) (xs : List (List ℕ)) (other : List ℕ) → find p xs ≡ None → list_any (bytes_eq other) xs ≡ true → p other ≡ true → ⊥
found_none p [] other none e t = absurd (true≢false (sym e))
found_none p (x ∷ xs) other none e t =
    elim (p x) as (λ b. p x ≡ b → cond b (Some x) (find p xs) ≡ None → ⊥) [
      | true ↦ λ _ here. absent x (sym here)
      | false ↦ λ no rest_none. elim (bytes_eq other x) as (λ b. bytes_eq other x ≡ b → (b || list_any (bytes_eq other) xs) ≡ true → ⊥) [
        | true ↦ λ eq _. true≢false (sym t ∙ ap p ((bytes_decides other x).0 eq) ∙ no)
        | false ↦ λ _ rest. found_none p xs other rest_none rest t
      ] refl e
    ] refl none

pub least_is_least : (c : Contents) (folder : PathValue) (name : List ℕ) → least_segment c folder ≡ Some name → IsLeast c folder name
unfolding least_segment
least_is_least c folder name is = record {
  one = found_passes (is_segment c folder) (names_in c folder) name is;
  least = λ other t. found_least (is_segment c folder) (names_in c folder) name other (names_listing c folder).ascending is (segment_named_in c folder other t) t;
}

pub none_is_none : (c : Contents) (folder : PathValue) (other : List ℕ) → least_segment c folder ≡ None → is_segment c folder other ≡ false
unfolding least_segment
none_is_none c folder other none =
    elim (is_segment c folder other) as (λ t. is_segment c folder other ≡ t → t ≡ false) [
      | true ↦ λ t. absurd (found_none (is_segment c folder) (names_in c folder) other none (segment_named_in c folder other t) t)
      | false ↦ λ _. refl
    ] refl
