-- The tuples of the left page of a split, added part by part.
use Rattle.std.proofs.Common.{◌≡◌, ℕ, List, ◌∷◌, ◌++◌, Err, ◌∙◌, ap}
use Rattle.page_layout.specs.declared.refusal.RedoWhy.{RedoWhy}
use Rattle.page_masks.specs.Law.{and_then}
use Rattle.btree_pages.specs.Items.{with_last, with_items}
use Rattle.btree_pages.proofs.ItemsLemmas.{Done, items_append}

module _ (before : List (List ℕ)) (new : List ℕ) (behind : List (List ℕ)) (p : List ℕ) where
  -- the first part refused
  pub before_refused : (why : RedoWhy) → with_items before p ≡ Err why → with_items (before ++ (new ∷ behind)) p ≡ Err why
  before_refused why e = items_append before (new ∷ behind) p ∙ ap (λ r. and_then r (with_items (new ∷ behind))) e

  -- then the new tuple
  pub new_refused : (q : List ℕ) (why : RedoWhy) → with_items before p ≡ Done q → with_last new q ≡ Err why → with_items (before ++ (new ∷ behind)) p ≡ Err why
  new_refused q why e n = items_append before (new ∷ behind) p ∙ ap (λ r. and_then r (with_items (new ∷ behind))) e ∙ ap (λ r. and_then r (with_items behind)) n

  -- then the rest
  pub both_added : (q r : List ℕ) → with_items before p ≡ Done q → with_last new q ≡ Done r → with_items (before ++ (new ∷ behind)) p ≡ with_items behind r
  both_added q r e n = items_append before (new ∷ behind) p ∙ ap (λ x. and_then x (with_items (new ∷ behind))) e ∙ ap (λ x. and_then x (with_items behind)) n
