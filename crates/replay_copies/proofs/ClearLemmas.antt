-- A folder is removed alike where what stands at and below it is the same.
use Rattle.std.proofs.Common.{◌≡◌, ℕ, zero, suc, ◌-◌, ◌<◌, true, false, List, [], ◌∷◌, ◌++◌, length, Option, None, Some, is_some, Result, Ok, Err, refl, ap, sym, subst, ◌∙◌, append_assoc, append-nil, arith}
use Rattle.std.specs.Prelude.{if◌then◌else◌}
use Rattle.std.proofs.lemmas.List.{length-append}
use Rattle.std.specs.FinMap.{get, remove}
use Rattle.cluster_tree.specs.Causes.{given}
use Rattle.cluster_tree.specs.Contents.{Contents, Entry, FileEntry, FolderEntry, LinkEntry, entry_at, or_root}
use Rattle.cluster_tree.specs.Folders.{names_in}
use Rattle.cluster_tree.specs.PathValue.{PathValue, below}
use Rattle.cluster_tree.specs.declared.file_fault.FileFault.{FileFault}
use Rattle.cluster_tree.proofs.ContentsLemmas.{entry-removed, entry-removed_other}
use Rattle.cluster_tree.proofs.NamesLemmas.{listing_names, names_listing}
use Rattle.cluster_tree.proofs.OrderLemmas.{same_path}
use Rattle.cluster_tree.proofs.TreeLemmas.{same_or_other}
use Rattle.file_edits.specs.Asking.{file_asked, folder_asked, names_asked}
use Rattle.file_edits.specs.Clearing.{cleared_by, emptied, entry_cleared, folder_cleared, full_asked, in_turn, tree_removed}
use Rattle.file_edits.specs.Edits.{file_removed, without}

not-root : (parts : List (List ℕ)) (o : Option Entry) → 0 < length parts → or_root parts o ≡ o
not-root [] None some = absurd (omega arith)
not-root (part ∷ parts) None some = refl
not-root parts (Some entry) some = refl

module _ (f : PathValue) where
  -- the same stands at each path
  abbrev pub SameBelow : (c d : Contents) → Type 0
  SameBelow c d = (parts : List (List ℕ)) → entry_at c (below f parts) ≡ entry_at d (below f parts)

  -- both are refused the same, or neither is and the same stands
  abbrev SameLeft : (r s : Result Contents FileFault) → Type 0
  SameLeft (Ok c) (Ok d) = SameBelow c d
  SameLeft (Ok c) (Err e) = ⊥
  SameLeft (Err e) (Ok d) = ⊥
  SameLeft (Err e) (Err g) = e ≡ g

  abbrev StepsSame : (step after : List ℕ → Contents → Result Contents FileFault) → Type 0
  StepsSame step after = (name : List ℕ) (c d : Contents) → SameBelow c d → SameLeft (step name c) (after name d)

  removed-same : (parts : List (List ℕ)) (c d : Contents) → SameBelow c d → SameBelow (remove c (below f parts)) (remove d (below f parts))
  removed-same parts c d same q = same_or_other (below f q) (below f parts)
      (λ e. ap (entry_at (remove c (below f parts))) e ∙ entry-removed c (below f parts) ∙ sym (entry-removed d (below f parts)) ∙ sym (ap (entry_at (remove d (below f parts))) e))
      (λ other. entry-removed_other c (below f parts) (below f q) other ∙ same q ∙ sym (entry-removed_other d (below f parts) (below f q) other))

  given-same : (r s : Result Contents FileFault) (next after : Contents → Result Contents FileFault) → SameLeft r s → ((c d : Contents) → SameBelow c d → SameLeft (next c) (after d)) → SameLeft (given r next) (given s after)
  given-same (Ok c) (Ok d) next after same later = later c d same
  given-same (Ok c) (Err g) next after same later = absurd same
  given-same (Err e) (Ok d) next after same later = absurd same
  given-same (Err e) (Err g) next after same later = same

  told-same : {A : Type 0} (r : Result A FileFault) (next after : A → Result Contents FileFault) → ((a : A) → SameLeft (next a) (after a)) → SameLeft (given r next) (given r after)
  told-same (Ok a) next after later = later a
  told-same (Err e) next after later = refl

  asked-same : {A : Type 0} (r s : Result A FileFault) (next after : A → Result Contents FileFault) → r ≡ s → ((a : A) → SameLeft (next a) (after a)) → SameLeft (given r next) (given s after)
  asked-same r s next after same later = subst (λ x. SameLeft (given r next) (given x after)) same (told-same r next after later)

  -- ---- the names in a folder

  in-folder : (c : Contents) (parts : List (List ℕ)) (name : List ℕ) → entry_at c (below f (parts ++ name ∷ [])) ≡ get c (below (below f parts) (name ∷ []))
  in-folder c parts name =
      let path : below f (parts ++ name ∷ []) ≡ below (below f parts) (name ∷ []) = same_path _ _ refl (sym (append_assoc f.parts parts (name ∷ []))) in
      ap (entry_at c) path ∙ not-root ((f.parts ++ parts) ++ name ∷ []) (get c (below (below f parts) (name ∷ []))) (omega (arith, length-append (f.parts ++ parts) (name ∷ [])))

  names-same : (parts : List (List ℕ)) (c d : Contents) → SameBelow c d → names_in c (below f parts) ≡ names_in d (below f parts)
  names-same parts c d same =
      let one = names_listing c (below f parts) in
      listing_names d (below f parts) (names_in c (below f parts)) (record {
        ascending = one.ascending;
        members = λ name. one.members name ∙ ap is_some (sym (in-folder c parts name) ∙ same (parts ++ name ∷ []) ∙ in-folder d parts name);
      })

  listed-same : (parts : List (List ℕ)) (c d : Contents) (o : Option Entry) → SameBelow c d → names_asked c (below f parts) o ≡ names_asked d (below f parts) o
  listed-same parts c d None same = refl
  listed-same parts c d (Some (FolderEntry true)) same = refl
  listed-same parts c d (Some (FolderEntry false)) same = ap (λ x. Ok x) (names-same parts c d same)
  listed-same parts c d (Some (FileEntry bytes)) same = refl
  listed-same parts c d (Some LinkEntry) same = refl

  -- ---- entries, and the folder

  without-same : (parts : List (List ℕ)) (c d : Contents) (found : Option (List ℕ)) → SameBelow c d → SameLeft (without (below f parts) c found) (without (below f parts) d found)
  without-same parts c d None same = same
  without-same parts c d (Some bytes) same = removed-same parts c d same

  file-same : (parts : List (List ℕ)) (c d : Contents) → SameBelow c d → SameLeft (file_removed (below f parts) c) (file_removed (below f parts) d)
  unfolding file_removed
  file-same parts c d same =
      asked-same (file_asked (below f parts) (entry_at c (below f parts))) (file_asked (below f parts) (entry_at d (below f parts))) (without (below f parts) c) (without (below f parts) d) (ap (file_asked (below f parts)) (same parts)) (λ found. without-same parts c d found same)

  turn-same : (step after : List ℕ → Contents → Result Contents FileFault) (names : List (List ℕ)) (c d : Contents) → StepsSame step after → SameBelow c d → SameLeft (in_turn step names c) (in_turn after names d)
  unfolding in_turn
  turn-same step after [] c d steps same = same
  turn-same step after (name ∷ names) c d steps same =
      given-same (step name c) (after name d) (in_turn step names) (in_turn after names) (steps name c d same) (λ x y still. turn-same step after names x y steps still)

  cleared-same : (parts : List (List ℕ)) (step after : List ℕ → Contents → Result Contents FileFault) (c d : Contents) → StepsSame step after → SameBelow c d → SameLeft (cleared_by step (below f parts) c) (cleared_by after (below f parts) d)
  cleared-same parts step after c d steps same =
      asked-same (names_asked c (below f parts) (entry_at c (below f parts))) (names_asked d (below f parts) (entry_at d (below f parts))) (λ names. emptied step (below f parts) names c) (λ names. emptied after (below f parts) names d)
      (listed-same parts c d (entry_at c (below f parts)) same ∙ ap (names_asked d (below f parts)) (same parts))
      (λ names. given-same (in_turn step names c) (in_turn after names d) (λ x. Ok (remove x (below f parts))) (λ y. Ok (remove y (below f parts))) (turn-same step after names c d steps same) (λ x y still. removed-same parts x y still))

  one-same : (parts : List (List ℕ)) (step : List ℕ → Contents → Result Contents FileFault) (c d : Contents) → StepsSame step step → SameBelow c d
      → SameLeft (given (full_asked (below f parts) (entry_at c (below f parts))) (λ full. if full then cleared_by step (below f parts) c else file_removed (below f parts) c))
      (given (full_asked (below f parts) (entry_at d (below f parts))) (λ full. if full then cleared_by step (below f parts) d else file_removed (below f parts) d))
  one-same parts step c d steps same =
      asked-same (full_asked (below f parts) (entry_at c (below f parts))) (full_asked (below f parts) (entry_at d (below f parts)))
      (λ full. if full then cleared_by step (below f parts) c else file_removed (below f parts) c) (λ full. if full then cleared_by step (below f parts) d else file_removed (below f parts) d)
      (ap (full_asked (below f parts)) (same parts))
      (λ full. elim full as (λ b. SameLeft (if b then cleared_by step (below f parts) c else file_removed (below f parts) c) (if b then cleared_by step (below f parts) d else file_removed (below f parts) d)) [
        | true ↦ cleared-same parts step step c d steps same
        | false ↦ file-same parts c d same
      ])

  entry-same : (k : ℕ) (parts : List (List ℕ)) → StepsSame (entry_cleared k (below f parts)) (entry_cleared k (below f parts))
  unfolding entry_cleared
  entry-same zero parts name c d same = refl
  entry-same (suc k) parts name c d same =
      rw (append_assoc f.parts parts (name ∷ [])) (one-same (parts ++ name ∷ []) (entry_cleared k (below f (parts ++ name ∷ []))) c d (entry-same k (parts ++ name ∷ [])) same)

  tree-same : (c d : Contents) → SameBelow c d → SameLeft (tree_removed (below f []) c) (tree_removed (below f []) d)
  unfolding tree_removed
  tree-same c d same =
      let k : ℕ = 64 - length (below f []).parts in
      asked-same (folder_asked (below f []) (entry_at c (below f []))) (folder_asked (below f []) (entry_at d (below f [])))
      (λ there. if there then folder_cleared k (below f []) c else Ok c) (λ there. if there then folder_cleared k (below f []) d else Ok d)
      (ap (folder_asked (below f [])) (same []))
      (λ there. elim there as (λ b. SameLeft (if b then folder_cleared k (below f []) c else Ok c) (if b then folder_cleared k (below f []) d else Ok d)) [
        | true ↦ cleared-same [] (entry_cleared k (below f [])) (entry_cleared k (below f [])) c d (entry-same k []) same
        | false ↦ same
      ])

  refused-is : (e : FileFault) (s : Result Contents FileFault) → SameLeft (Err e) s → s ≡ Err e
  refused-is e (Ok d) same = absurd same
  refused-is e (Err g) same = ap (λ x. Err x) (sym same)

  -- so it is refused the same
  pub refused-same : (c d : Contents) (e : FileFault) → SameBelow c d → tree_removed f c ≡ Err e → tree_removed f d ≡ Err e
  refused-same c d e same refused =
      let itself : below f [] ≡ f = same_path _ _ refl (append-nil f.parts) in
      refused-is e (tree_removed f d) (subst (λ r. SameLeft r (tree_removed f d)) refused (subst (λ p. SameLeft (tree_removed p c) (tree_removed p d)) itself (tree-same c d same)))
