-- Once a folder is done, what lies right in it waits besides.
use Rattle.std.proofs.Common.{◌≡◌, ℕ, ◌<◌, Bool, true, false, ◌&&◌, ◌||◌, List, [], ◌∷◌, ◌++◌, length, map, filter, Some, refl, ap, sym, ◌∙◌}
use Rattle.std.specs.declared.cmp.Ordering.{Ordering}
use Rattle.std.specs.declared.cmp.Ordering.TheVariants.{Less, Equal, Greater}
use Rattle.std.specs.FinMap.{entries}
use Rattle.std.specs.List.{list_all, list_any}
use Rattle.cluster_tree.specs.Contents.{Contents, Entry, is_folder}
use Rattle.cluster_tree.specs.Folders.{IsListing, last_part, lies_in, names_in}
use Rattle.cluster_tree.specs.PathValue.{PathValue, below, is_part, path_text}
use Rattle.cluster_tree.proofs.NamesLemmas.{listing_names}
use Rattle.file_walk.specs.Waiting.{put_names}
use Rattle.file_walk.specs.Walk.{found_below}
use Rattle.file_walk.proofs.AscendLemmas.{itself, key, reversed, value}
use Rattle.file_walk.proofs.ClosedLemmas.{front_less}
use Rattle.file_walk.proofs.FoundLemmas.{children, name_in}
use Rattle.file_walk.proofs.LoopLemmas.{same_pass, wait_on}
use Rattle.file_walk.proofs.PlaceLemmas.{text_below}
use Rattle.file_walk.proofs.QueueLemmas.{text_cmp, entry, AllAbove, Ascends, waits}
use Rattle.file_walk.proofs.StepLemmas.{found_put, names_put, place_of, put_paths}
use Rattle.file_walk.proofs.WholeLemmas.{holds, top}

-- what lies in a folder has a greater text
pub lies_less : (p q : PathValue) → p.absolute ≡ false → 0 < length p.parts → lies_in p q ≡ true → text_cmp (path_text p) (path_text q) ≡ Less
lies_less p q relative some inside =
    ap (text_cmp (path_text p)) (ap path_text (name_in p q inside) ∙ sym (text_below p (last_part q) relative some)) ∙ front_less (path_text p) 47 (last_part q)

apart : (o : Ordering) → o ≡ Less → o ≡ Greater → ⊥
apart o l g = absurd (let no_way : Less ≡ Greater = sym l ∙ g in cc)

tied : (o : Ordering) → o ≡ Less → o ≡ Equal → ⊥
tied o l g = absurd (let no_way : Less ≡ Equal = sym l ∙ g in cc)

not_both : (a b : Bool) → (b ≡ true → ⊥) → (a && b) ≡ false
not_both true true h = absurd (h refl)
not_both true false h = refl
not_both false b h = refl

module _ (root : PathValue) (x : PathValue × Entry) (relative : x.0.absolute ≡ false) (some : 0 < length x.0.parts) where
  not_lesser : (y : PathValue × Entry) → text_cmp (path_text y.0) (path_text x.0) ≡ Less → holds x y ≡ false
  not_lesser y l = not_both (is_folder (Some x.1)) (lies_in x.0 y.0) (λ inside. apart (text_cmp (path_text x.0) (path_text y.0)) (lies_less x.0 y.0 relative some inside) (reversed (path_text y.0) (path_text x.0) l))

  not_own : holds x x ≡ false
  not_own = not_both (is_folder (Some x.1)) (lies_in x.0 x.0) (λ inside. tied (text_cmp (path_text x.0) (path_text x.0)) (lies_less x.0 x.0 relative some inside) (itself (path_text x.0)))

  lesser_at : (d : PathValue × Entry) (ds xs : List (PathValue × Entry)) → AllAbove (key root) (value root) d (ds ++ x ∷ xs) → text_cmp (path_text d.0) (path_text x.0) ≡ Less
  lesser_at d [] xs h = h.1
  lesser_at d (z ∷ ds) xs h = lesser_at d ds xs h.2

  -- none that is done lies in it
  pub none_before : (done xs : List (PathValue × Entry)) → Ascends (key root) (value root) (done ++ x ∷ xs) → list_any (holds x) (done ++ x ∷ []) ≡ false
  none_before [] xs up = ap (λ b. b || false) not_own
  none_before (d ∷ ds) xs up = ap (λ b. b || list_any (holds x) (ds ++ x ∷ [])) (not_lesser d (lesser_at d ds xs up.0)) ∙ none_before ds xs up.1

  pub rest_up : (done xs : List (PathValue × Entry)) → Ascends (key root) (value root) (done ++ x ∷ xs) → Ascends (key root) (value root) xs
  rest_up [] xs up = up.1
  rest_up (d ∷ ds) xs up = rest_up ds xs up.1

  -- so the names of a folder, put into what waits, are what waits then
  pub folder_on : (c : Contents) (done xs : List (PathValue × Entry)) → found_below c root ≡ done ++ x ∷ xs → Ascends (key root) (value root) (done ++ x ∷ xs)
      → is_folder (Some x.1) ≡ true → list_all is_part (root.parts ++ x.0.parts) ≡ true
      → (names : List (List ℕ)) → IsListing c (below root x.0.parts) names → list_all is_part names ≡ true
      → put_names (place_of root x.0) (map (entry (key root) (value root)) (filter (waits top holds done) xs)) names ≡ map (entry (key root) (value root)) (filter (waits top holds (done ++ x ∷ [])) xs)
  unfolding found_below names_in
  folder_on c done xs split up folder proper names listing parts =
      let named : names ≡ names_in c (below root x.0.parts) = listing_names c (below root x.0.parts) names listing in
      let good : list_all is_part (names_in c (below root x.0.parts)) ≡ true = ap (list_all is_part) (sym named) ∙ parts in
      let within : filter (λ (y : PathValue × Entry). lies_in x.0 y.0) (done ++ x ∷ xs) ≡ filter (holds x) (done ++ x ∷ xs) =
      same_pass (λ y. lies_in x.0 y.0) (holds x) (done ++ x ∷ xs) (λ y. ap (λ b. b && lies_in x.0 y.0) (sym folder)) in
      names_put root x.0 names (map (entry (key root) (value root)) (filter (waits top holds done) xs))
      ∙ ap (λ (l : List (List ℕ)). put_paths root (map (entry (key root) (value root)) (filter (waits top holds done) xs)) (map (λ (n : List ℕ). below x.0 (n ∷ [])) l)) named
      ∙ ap (put_paths root (map (entry (key root) (value root)) (filter (waits top holds done) xs))) (sym (children root x.0 relative proper (entries c) good))
      ∙ ap (λ (l : List (PathValue × Entry)). put_paths root (map (entry (key root) (value root)) (filter (waits top holds done) xs)) (map (λ (y : PathValue × Entry). y.0) l)) (ap (filter (λ (y : PathValue × Entry). lies_in x.0 y.0)) split ∙ within)
      ∙ sym (found_put root (filter (holds x) (done ++ x ∷ xs)) (map (entry (key root) (value root)) (filter (waits top holds done) xs)))
      ∙ wait_on (key root) (value root) top holds done x xs (λ y. itself (path_text y.0)) (rest_up done xs up) (none_before done xs up)
