-- Files piece by piece.
use Rattle.std.proofs.Common.{◌≡◌, ◌≢◌, ℕ, ◌+◌, ◌≤◌, Bool, true, false, List, ◌++◌, length, take, drop, refl, sym, ap, ap₂, ◌∙◌, true≢false}
use Rattle.std.proofs.Math.Seq.{take-add}
use Rattle.std.proofs.lemmas.List.{take_all}
use Rattle.std.proofs.lemmas.Slice.Eq.{bytes_eq-Decides}
use Rattle.std.specs.Prelude.{bytes_eq}
use Rattle.cluster_compare.specs.Looks.{part_of}

not-equal : (a b : List ℕ) → (a ≡ b → ⊥) → false ≡ bytes_eq a b
not-equal a b h = by (bytes_eq a b) refl
  where
    by : (t : Bool) → bytes_eq a b ≡ t → false ≡ t
    by false is = refl
    by true is = absurd (h ((bytes_eq-Decides a b).0 is))

-- files of other sizes
pub sizes-other : (a b : List ℕ) → length a ≢ length b → false ≡ bytes_eq a b
sizes-other a b h = not-equal a b (λ same. h (ap length same))

module _ (a b : List ℕ) (done n m : ℕ) (r : Bool) (is : r ≡ bytes_eq (part_of done n a) (part_of done m b)) where
  -- a piece that differs
  pub piece-other : n ≡ m → r ≡ false → false ≡ bytes_eq a b
  piece-other e none = not-equal a b (λ same. true≢false (sym ((bytes_eq-Decides (part_of done n a) (part_of done m b)).1 (ap (part_of done n) same ∙ ap (λ k. part_of done k b) e)) ∙ sym is ∙ none))

  -- one that is the same in both
  pub piece-same : (k : ℕ) → n ≡ k → m ≡ k → r ≡ true → take done a ≡ take done b → take (done + k) a ≡ take (done + k) b
  piece-same k e f some so =
      take-add done k a
      ∙ ap₂ (λ (x y : List ℕ). x ++ y) so (ap (λ l. part_of done l a) (sym e) ∙ (bytes_eq-Decides (part_of done n a) (part_of done m b)).0 (sym is ∙ some) ∙ ap (λ l. part_of done l b) f)
      ∙ sym (take-add done k b)

-- and at the end all is
pub all-same : (a b : List ℕ) (done : ℕ) → length a ≤ done → length b ≤ done → take done a ≡ take done b → true ≡ bytes_eq a b
all-same a b done l m so = sym ((bytes_eq-Decides a b).1 (sym (take_all done a l) ∙ so ∙ take_all done b m))
