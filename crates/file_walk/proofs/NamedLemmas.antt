-- What lies below a root is of proper parts, since a listing has named it.
use Rattle.std.proofs.Common.{◌≡◌, ℕ, zero, suc, ◌<◌, Bool, true, false, ◌&&◌, ◌||◌, List, [], ◌∷◌, ◌++◌, length, Option, None, Some, is_some, bytes_eq, refl, ap, sym, subst, ◌∙◌, append_assoc, append-nil, true≢false, arith}
use Rattle.std.proofs.lemmas.List.{length-append}
use Rattle.std.proofs.lemmas.List.Folds.{list_all-append}
use Rattle.std.proofs.lemmas.Slice.Eq.{bytes_eq-Decides}
use Rattle.std.specs.FinMap.{get, get-entries, entries}
use Rattle.std.specs.List.{list_all, list_any}
use Rattle.cluster_tree.specs.Contents.{Contents, Entry, FolderEntry, IsTree, entry_at, is_folder, or_root}
use Rattle.cluster_tree.specs.Folders.{IsListing}
use Rattle.cluster_tree.specs.PathValue.{PathValue, below, is_part, path_of}
use Rattle.file_walk.specs.Walk.{HasParts, found_below}
use Rattle.file_walk.proofs.AscendLemmas.{found}
use Rattle.file_walk.proofs.ClosedLemmas.{In, found_entry, folder_there, in_found, low_front, parent_below}
use Rattle.file_walk.proofs.FoundLemmas.{from_below}

-- what lies right in a folder has a name that is a part
abbrev pub AreNamed : Contents → PathValue → Type 0
AreNamed c folder = (name : List ℕ) → is_some (get c (below folder (name ∷ []))) ≡ true → is_part name ≡ true

and_both : (a b : Bool) → (a && b) ≡ true → (a ≡ true) × (b ≡ true)
and_both true b h = (refl, h)
and_both false b h = absurd (true≢false (sym h))

one_of : (names : List (List ℕ)) (name : List ℕ) → list_all is_part names ≡ true → list_any (bytes_eq name) names ≡ true → is_part name ≡ true
one_of [] name h k = absurd (true≢false (sym k))
one_of (x ∷ xs) name h k = by (one_of xs name (and_both (is_part x) (list_all is_part xs) h).1) (bytes_eq name x) refl k
  where
    by : (list_any (bytes_eq name) xs ≡ true → is_part name ≡ true) → (b : Bool) → bytes_eq name x ≡ b → (b || list_any (bytes_eq name) xs) ≡ true → is_part name ≡ true
    by rest true is k = let same : name ≡ x = (bytes_eq-Decides name x).0 is in ap is_part same ∙ (and_both (is_part x) (list_all is_part xs) h).0
    by rest false is k = rest k

-- a listing of parts names all that lies right in a folder
pub named_by : (c : Contents) (folder : PathValue) (names : List (List ℕ)) → IsListing c folder names → list_all is_part names ≡ true → AreNamed c folder
named_by c folder names listing parts name h = one_of names name parts (listing.members name ∙ h)

-- ---- the last part

record Snoc (parts : List (List ℕ)) (n : ℕ) : Type 0 where
  init : List (List ℕ)
  name : List ℕ
  is : parts ≡ init ++ name ∷ []
  size : length init ≡ n

snoc : (x : List ℕ) (xs : List (List ℕ)) (n : ℕ) → length xs ≡ n → Snoc (x ∷ xs) n
snoc x [] n h = record { init = []; name = x; is = refl; size = h }
snoc x (y ∷ ys) n h =
    let s : Snoc (y ∷ ys) (length ys) = snoc y ys (length ys) refl in
    let size : length s.init ≡ length ys = s.size in
    record { init = x ∷ s.init; name = s.name; is = ap (λ l. x ∷ l) s.is; size = ap suc size ∙ h }

got_of : (o : Option Entry) (parts : List (List ℕ)) → 0 < length parts → is_some (or_root parts o) ≡ true → is_some o ≡ true
got_of (Some e) parts k h = refl
got_of None [] k h = absurd (omega arith)
got_of None (part ∷ parts) k h = h

some_folder : (o : Option Entry) → is_folder o ≡ true → is_some o ≡ true
some_folder None h = h
some_folder (Some e) h = refl

all_more : (front parts : List (List ℕ)) (name : List ℕ) → list_all is_part (front ++ parts) ≡ true → is_part name ≡ true → list_all is_part (front ++ (parts ++ name ∷ [])) ≡ true
all_more front parts name h k =
    ap (list_all is_part) (sym (append_assoc front parts (name ∷ [])))
    ∙ list_all-append is_part (front ++ parts) (name ∷ [])
    ∙ ap (λ b. b && (is_part name && true)) h ∙ ap (λ b. b && true) k

module _ (c : Contents) (root : PathValue) (tree : IsTree c) (proper : list_all is_part root.parts ≡ true) (root_named : AreNamed c root)
    (named : (x : PathValue × Entry) → In x (found_below c root) → is_folder (Some x.1) ≡ true → AreNamed c (below root x.0.parts)) where
  -- what lies right in a folder below the root
  name_part : (front : List (List ℕ)) (name : List ℕ) → list_all is_part (root.parts ++ front) ≡ true → is_folder (entry_at c (below root front)) ≡ true
      → is_some (get c (below root (front ++ name ∷ []))) ≡ true → is_part name ≡ true
  unfolding found_below
  name_part [] name good folder h = root_named name h
  name_part (part ∷ front) name good folder h =
      let more : 0 < length (root.parts ++ part ∷ front) = omega (arith, length-append root.parts (part ∷ front)) in
      let some : 0 < length (part ∷ front) = omega arith in
      let there = folder_there (get c (below root (part ∷ front))) (root.parts ++ part ∷ front) folder more in
      let inside = in_found root (entries c) (below root (part ∷ front)) (FolderEntry there.0)
      (found_entry (entries c) (below root (part ∷ front)) (FolderEntry there.0) (sym (get-entries c (below root (part ∷ front))) ∙ there.1)) (low_front root (part ∷ front) some good) in
      let own : In (path_of false (part ∷ front), FolderEntry there.0) (found root (entries c)) =
      subst (λ (p : PathValue). In (p, FolderEntry there.0) (found root (entries c))) (from_below root (part ∷ front)) inside in
      named (path_of false (part ∷ front), FolderEntry there.0) own refl name
      (ap (λ l. is_some (get c (path_of root.absolute l))) (append_assoc root.parts (part ∷ front) (name ∷ [])) ∙ h)

  all_parts : (n : ℕ) (parts : List (List ℕ)) → length parts ≡ n → is_some (entry_at c (below root parts)) ≡ true → list_all is_part (root.parts ++ parts) ≡ true
  all_parts n [] size there = ap (list_all is_part) (append-nil root.parts) ∙ proper
  all_parts zero (x ∷ xs) size there = absurd (omega arith)
  all_parts (suc n) (x ∷ xs) size there =
      let s : Snoc (x ∷ xs) n = snoc x xs n (omega arith) in
      let more : 0 < length (root.parts ++ x ∷ xs) = omega (arith, length-append root.parts (x ∷ xs)) in
      let got : is_some (get c (below root (s.init ++ s.name ∷ []))) ≡ true =
      ap (λ l. is_some (get c (below root l))) (sym s.is) ∙ got_of (get c (below root (x ∷ xs))) (root.parts ++ x ∷ xs) more there in
      let folder : is_folder (entry_at c (below root s.init)) ≡ true =
      ap (λ (p : PathValue). is_folder (entry_at c p)) (sym (parent_below root s.init s.name)) ∙ tree (below root (s.init ++ s.name ∷ [])) got in
      let front : list_all is_part (root.parts ++ s.init) ≡ true = all_parts n s.init s.size (some_folder (entry_at c (below root s.init)) folder) in
      let part : is_part s.name ≡ true = name_part s.init s.name front folder got in
      ap (λ l. list_all is_part (root.parts ++ l)) s.is ∙ all_more root.parts s.init s.name front part

  pub parts_below : HasParts c root
  parts_below parts there = all_parts (length parts) parts refl there
