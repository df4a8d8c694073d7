-- The names of what lies in a folder are its one listing.
use Rattle.std.proofs.Common.{◌≡◌, ℕ, ◌-◌, Bool, true, false, T, ◌&&◌, ◌||◌, cond, nat_lt, List, [], ◌∷◌, ◌++◌, length, take, filter, map, get_or, is_some, refl, ap, ap₂, sym, ◌∙◌, true≢false, append_assoc, bytes_eq, arith, rules}
use Rattle.std.proofs.lemmas.Grind.{common_steps}
use Rattle.std.specs.declared.cmp.Ordering.{Ordering}
use Rattle.std.specs.declared.cmp.Ordering.TheVariants.{Less, Equal, Greater}
use Rattle.std.specs.Ordering.{on, then_cmp, nat_cmp, bool_cmp, ordering_then, is_lt}
use Rattle.std.specs.Cmp.{tied_itself, nat_cmp_total}
use Rattle.std.specs.Cmp.Lexicographic.{slice_cmp, bytes_decides}
use Rattle.std.specs.FinMap.{get, keys, entries, entries_sorted, contains_key-keys, slice_cmp-IsAntisymmetric, nat_cmp-IsAntisymmetric}
use Rattle.std.specs.FinMap.Entries.{below_all, is_sorted}
use Rattle.std.specs.List.{AllByRecursion, list_any, join_with_byte}
use Rattle.std.specs.List.Sorted.{IsStrictlySortedBy}
use Rattle.cluster_tree.specs.PathValue.{PathValue, path_cmp, path_text, text_of, below}
use Rattle.cluster_tree.specs.PathOrder.{path_eq}
use Rattle.cluster_tree.proofs.OrderLemmas.{path_cmp_total, path_eq-own, path_eq-same, path_eq-other, same_path}
use Rattle.cluster_tree.specs.Contents.{Contents, Entry, parent}
use Rattle.cluster_tree.specs.Folders.{lies_in, last_part, names_in, IsListing}
use Rattle.cluster_tree.proofs.FolderLemmas.{lies_in-below}
use Rattle.cluster_tree.proofs.ListingLemmas.{listing-one}

both : (a b : Bool) → a && b ≡ true → (a ≡ true) × (b ≡ true)
both true b e = (refl, e)
both false b e = absurd (true≢false (sym e))

first : (a b : Bool) → T (a && b) → T a
first true b h = tt
first false b h = h

second : (a b : Bool) → T (a && b) → T b
second true b h = h
second false b h = absurd h

less : (o : Ordering) → T (is_lt o) → o ≡ Less
less Less h = refl
less Equal h = absurd h
less Greater h = absurd h

paths_below : (x : PathValue) (es : List (PathValue × Entry)) → T (below_all path_cmp x es) → AllByRecursion (λ y. path_cmp x y ≡ Less) (map (λ e. e.0) es)
paths_below x [] h = tt
paths_below x (e ∷ es) h = (less (path_cmp x e.0) (first _ _ h), paths_below x es (second _ _ h))

paths_ascend : (es : List (PathValue × Entry)) → T (is_sorted path_cmp es) → IsStrictlySortedBy path_cmp (map (λ e. e.0) es)
unfolding IsStrictlySortedBy
paths_ascend [] h = tt
paths_ascend (e ∷ es) h = (paths_below e.0 es (first _ _ h), paths_ascend es (second _ _ h))

-- each part, and a slash behind it
with_slashes : List (List ℕ) → List ℕ
with_slashes [] = []
with_slashes (part ∷ parts) = part ++ 47 ∷ with_slashes parts

joined : (parts : List (List ℕ)) (name : List ℕ) → join_with_byte 47 (parts ++ name ∷ []) ≡ with_slashes parts ++ name
unfolding with_slashes
joined [] name = refl
joined (part ∷ []) name = sym (append_assoc part (47 ∷ []) name)
joined (part ∷ other ∷ parts) name = ap (λ l. part ++ 47 ∷ l) (joined (other ∷ parts) name) ∙ sym (append_assoc part (47 ∷ with_slashes (other ∷ parts)) name)

lead : Bool → List (List ℕ) → List ℕ
lead true parts = 47 ∷ with_slashes parts
lead false parts = with_slashes parts

-- the text of a path in a folder is that of the folder, and then the name
text_in : (absolute : Bool) (parts : List (List ℕ)) (name : List ℕ) → text_of absolute (parts ++ name ∷ []) ≡ lead absolute parts ++ name
unfolding lead with_slashes
text_in true parts name = ap (λ l. 47 ∷ l) (joined parts name)
text_in false [] name = refl
text_in false (part ∷ parts) name = joined (part ∷ parts) name

same_front : (xs a b : List ℕ) → slice_cmp nat_cmp (xs ++ a) (xs ++ b) ≡ slice_cmp nat_cmp a b
same_front [] a b = refl
same_front (x ∷ xs) a b = ap (λ o. ordering_then o (slice_cmp nat_cmp (xs ++ a) (xs ++ b))) (tied_itself nat_cmp_total x) ∙ same_front xs a b

texts_in : (folder : PathValue) (n m : List ℕ) → slice_cmp nat_cmp (path_text (below folder (n ∷ []))) (path_text (below folder (m ∷ []))) ≡ slice_cmp nat_cmp n m
texts_in folder n m = ap₂ (slice_cmp nat_cmp) (text_in folder.absolute folder.parts n) (text_in folder.absolute folder.parts m) ∙ same_front (lead folder.absolute folder.parts) n m

not_less : (o : Ordering) → o ≡ Less → o ≡ Equal → ⊥
not_less Less l e = absurd (let no : Less ≡ Equal = e in cc)
not_less Equal l e = absurd (let no : Equal ≡ Less = l in cc)
not_less Greater l e = absurd (let no : Greater ≡ Less = l in cc)

greater_first : (o r : Ordering) → o ≡ Greater → ordering_then o r ≡ Less → ⊥
greater_first Less r g l = absurd (let no : Less ≡ Greater = g in cc)
greater_first Equal r g l = absurd (let no : Equal ≡ Greater = g in cc)
greater_first Greater r g l = absurd (let no : Greater ≡ Less = l in cc)

-- how paths of one text are told apart
abbrev rest_cmp : PathValue → PathValue → Ordering
rest_cmp = then_cmp (on (λ p. p.parts) (slice_cmp (slice_cmp nat_cmp))) (on (λ p. p.absolute) bool_cmp)

-- paths in a folder are in the order of their names
name_order : (folder : PathValue) (n m : List ℕ) → path_cmp (below folder (n ∷ [])) (below folder (m ∷ [])) ≡ Less → slice_cmp nat_cmp n m ≡ Less
name_order folder n m h =
    elim (slice_cmp nat_cmp n m) as (λ o. slice_cmp nat_cmp n m ≡ o → o ≡ Less) [
      | Less ↦ λ _. refl
      | Equal ↦ λ e.
          let same : n ≡ m = slice_cmp-IsAntisymmetric nat_cmp-IsAntisymmetric n m e in
          absurd (not_less _ h (ap (λ x. path_cmp (below folder (x ∷ [])) (below folder (m ∷ []))) same ∙ tied_itself path_cmp_total (below folder (m ∷ []))))
      | Greater ↦ λ e.
          absurd (greater_first (slice_cmp nat_cmp (path_text (below folder (n ∷ []))) (path_text (below folder (m ∷ [])))) (rest_cmp (below folder (n ∷ [])) (below folder (m ∷ []))) (texts_in folder n m ∙ e) h)
    ] refl

last_whole : (parts : List (List ℕ)) → nat_lt 0 (length parts) ≡ true → take (length parts - 1) parts ++ get_or parts (length parts - 1) [] ∷ [] ≡ parts
last_whole parts some = grind (arith, rules, common_steps, some)

-- what lies in a folder has a name there
named : (folder path : PathValue) → lies_in folder path ≡ true → path ≡ below folder (last_part path ∷ [])
named folder path inside =
    let two = both (nat_lt 0 (length path.parts)) (path_eq folder (parent path)) inside in
    let up : folder ≡ parent path = path_eq-same folder (parent path) two.1 in
    same_path _ _ (sym (ap (λ p. p.absolute) up)) (sym (last_whole path.parts two.0) ∙ ap (λ p. p.parts ++ last_part path ∷ []) (sym up))

path_order : (folder x y : PathValue) → lies_in folder x ≡ true → lies_in folder y ≡ true → path_cmp x y ≡ Less → slice_cmp nat_cmp (last_part x) (last_part y) ≡ Less
path_order folder x y here there h = name_order folder (last_part x) (last_part y) (sym (ap₂ path_cmp (named folder x here) (named folder y there)) ∙ h)

names_below : (folder x : PathValue) (ks : List PathValue) → lies_in folder x ≡ true → AllByRecursion (λ y. path_cmp x y ≡ Less) ks → AllByRecursion (λ y. slice_cmp nat_cmp (last_part x) y ≡ Less) (map last_part (filter (lies_in folder) ks))
names_below folder x [] here h = tt
names_below folder x (k ∷ ks) here h =
    elim (lies_in folder k) as (λ t. lies_in folder k ≡ t → AllByRecursion (λ y. slice_cmp nat_cmp (last_part x) y ≡ Less) (map last_part (cond t (k ∷ filter (lies_in folder) ks) (filter (lies_in folder) ks)))) [
      | true ↦ λ e. (path_order folder x k here e h.0, names_below folder x ks here h.1)
      | false ↦ λ e. names_below folder x ks here h.1
    ] refl

names_ascend : (folder : PathValue) (ks : List PathValue) → IsStrictlySortedBy path_cmp ks → IsStrictlySortedBy (slice_cmp nat_cmp) (map last_part (filter (lies_in folder) ks))
unfolding IsStrictlySortedBy
names_ascend folder [] h = tt
names_ascend folder (k ∷ ks) h =
    elim (lies_in folder k) as (λ t. lies_in folder k ≡ t → IsStrictlySortedBy (slice_cmp nat_cmp) (map last_part (cond t (k ∷ filter (lies_in folder) ks) (filter (lies_in folder) ks)))) [
      | true ↦ λ e. (names_below folder k ks e h.0, names_ascend folder ks h.1)
      | false ↦ λ e. names_ascend folder ks h.1
    ] refl

at_end : (parts : List (List ℕ)) (n d : List ℕ) → get_or (parts ++ n ∷ []) (length parts) d ≡ n
at_end parts n d = grind (arith, common_steps)

-- a name in a folder is that of one path alone
named_alike : (folder path : PathValue) (n : List ℕ) → lies_in folder path ≡ true → path_eq (below folder (n ∷ [])) path ≡ bytes_eq n (last_part path)
named_alike folder path n inside =
    elim (bytes_eq n (last_part path)) as (λ t. bytes_eq n (last_part path) ≡ t → path_eq (below folder (n ∷ [])) path ≡ t) [
      | true ↦ λ e. ap (path_eq (below folder (n ∷ []))) (named folder path inside ∙ ap (λ x. below folder (x ∷ [])) (sym ((bytes_decides n (last_part path)).0 e))) ∙ path_eq-own (below folder (n ∷ []))
      | false ↦ λ e. path_eq-other _ _ (λ same. true≢false (sym ((bytes_decides n (last_part path)).1 (sym (at_end folder.parts n n) ∙ ap (λ p. get_or p.parts (length folder.parts) n) (same ∙ named folder path inside) ∙ at_end folder.parts (last_part path) n)) ∙ e))
    ] refl

apart : (folder path : PathValue) (n : List ℕ) → lies_in folder path ≡ false → path_eq (below folder (n ∷ [])) path ≡ false
apart folder path n outside = path_eq-other _ _ (λ same. true≢false (sym (lies_in-below folder n) ∙ ap (lies_in folder) same ∙ outside))

names_members : (folder : PathValue) (n : List ℕ) (ks : List PathValue) → list_any (bytes_eq n) (map last_part (filter (lies_in folder) ks)) ≡ list_any (path_eq (below folder (n ∷ []))) ks
names_members folder n [] = refl
names_members folder n (k ∷ ks) =
    let rest = names_members folder n ks in
    elim (lies_in folder k) as (λ t. lies_in folder k ≡ t → list_any (bytes_eq n) (map last_part (cond t (k ∷ filter (lies_in folder) ks) (filter (lies_in folder) ks))) ≡ (path_eq (below folder (n ∷ [])) k || list_any (path_eq (below folder (n ∷ []))) ks)) [
      | true ↦ λ e. ap₂ (λ a b. a || b) (sym (named_alike folder k n e)) rest
      | false ↦ λ e. rest ∙ ap (λ a. a || list_any (path_eq (below folder (n ∷ []))) ks) (sym (apart folder k n e))
    ] refl

there : (c : Contents) (path : PathValue) → list_any (path_eq path) (keys c) ≡ is_some (get c path)
unfolding path_eq
there c path = sym (contains_key-keys c path)

pub names_listing : (c : Contents) (folder : PathValue) → IsListing c folder (names_in c folder)
unfolding names_in
names_listing c folder = record {
  ascending = names_ascend folder (keys c) (paths_ascend (entries c) (entries_sorted c));
  members = λ n. names_members folder n (keys c) ∙ there c (below folder (n ∷ []));
}

-- a listing is these names
pub listing_names : (c : Contents) (folder : PathValue) (names : List (List ℕ)) → IsListing c folder names → names ≡ names_in c folder
listing_names c folder names h = listing-one c folder names (names_in c folder) h (names_listing c folder)
