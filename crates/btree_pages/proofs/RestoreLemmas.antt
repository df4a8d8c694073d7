-- The tuples of a page that is restored.
use Rattle.std.proofs.Common.{◌≡◌, ℕ, suc, ◌+◌, ◌<◌, ◌≤◌, ◌⊎◌, inl, inr, Bor, List, [], ◌∷◌, ◌++◌, map, reverse, get_or, set, take, Err, length, ◌∙◌, ap, append_assoc, arith}
use Rattle.std.proofs.lemmas.List.{reverse-append, length-reverse, map-append}
use Rattle.std.proofs.Math.Seq.{take-suc, take-suc-set}
use Rattle.page_layout.specs.Page.{IsFormed}
use Rattle.page_layout.specs.declared.refusal.RedoWhy.TheVariants.{Room}
use Rattle.btree_pages.specs.Items.{with_items, restored}
use Rattle.btree_pages.proofs.DeleteLemmas.{lines_below}
use Rattle.btree_pages.proofs.ItemsLemmas.{AreAdded, all_items}

pub too_many : (tuples : List (List ℕ)) (p : List ℕ) → IsFormed p → 2042 < length tuples → restored tuples p ≡ Err Room
too_many tuples p f many = step (all_items (reverse tuples) p f)
  where
    step : ((q : List ℕ) × AreAdded (reverse tuples) p q) ⊎ (with_items (reverse tuples) p ≡ Err Room) → restored tuples p ≡ Err Room
    step (inl t) = absurd (omega (arith, lines_below t.0 t.1.formed, t.1.lines, length-reverse tuples, many))
    step (inr e) = e

-- what slices hold
abbrev pub held : List (Bor (List ℕ)) → List (List ℕ)
held slices = map (λ (slice : Bor (List ℕ)). slice.now) slices

pub last_first : (slices : List (Bor (List ℕ))) (i j : ℕ) (none : Bor (List ℕ)) → i ≡ j + 1 → i ≤ length slices
    → reverse (held (take i slices)) ≡ (get_or slices j none).now ∷ reverse (held (take j slices))
last_first slices i j none e le =
    let n : i ≡ suc j = omega (arith, e) in
    ap (λ k. reverse (held (take k slices))) n
    ∙ ap (λ s. reverse (held s)) (take-suc slices j none (omega (arith, e, le)))
    ∙ ap reverse (map-append (λ (slice : Bor (List ℕ)). slice.now) (take j slices) (get_or slices j none ∷ []))
    ∙ reverse-append (held (take j slices)) ((get_or slices j none).now ∷ [])

-- one more laid behind those that were
pub laid_next : (into : List (Bor (List ℕ))) (i : ℕ) (slice : Bor (List ℕ)) (rest all : List (List ℕ)) → i < length into → held (take i into) ++ (slice.now ∷ rest) ≡ all
    → held (take (i + 1) (set into i slice)) ++ rest ≡ all
laid_next into i slice rest all lt e =
    let n : i + 1 ≡ suc i = omega arith in
    ap (λ k. held (take k (set into i slice)) ++ rest) n
    ∙ ap (λ s. held s ++ rest) (take-suc-set into i slice lt)
    ∙ ap (λ s. s ++ rest) (map-append (λ (s : Bor (List ℕ)). s.now) (take i into) (slice ∷ []))
    ∙ append_assoc (held (take i into)) (slice.now ∷ []) rest
    ∙ e
