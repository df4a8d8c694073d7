-- The line that holds a byte is the same throughout eight bytes.
use Rattle.std.proofs.Common.{◌≡◌, ◌≢◌, ℕ, zero, suc, ◌+◌, ◌/◌, ◌%◌, ◌<◌, ◌≤◌, ◌==◌, ◌&&◌, ⊎_elim, List, Bool, true, false, Some, refl, sym, ◌∙◌, arith}
use Rattle.std.specs.Prelude.{if◌then◌else◌, nat_lt, nat_le}
use Rattle.std.proofs.lemmas.Bool.Decides.{nat_tests, eqb_tells}
use Rattle.page_layout.specs.Bytes.{up8}
use Rattle.page_layout.specs.Page.{lp_off, lp_len}
use Rattle.page_masks.specs.Mask.{holds, holder}
use Rattle.page_masks.proofs.HeapLaid.{Fit, open_holds, holds_none}

chunk_test : (off len i j : ℕ) → off % 8 ≡ 0 → i / 8 ≡ j / 8 → (nat_le off i && nat_lt i (off + up8 len)) ≡ (nat_le off j && nat_lt j (off + up8 len))
chunk_test off len i j by8 e = le_and (nat_le off i) (nat_le off j) (nat_lt i (off + up8 len)) (nat_lt j (off + up8 len)) (first (nat_le off i) (nat_le off j) refl refl) (second (nat_lt i (off + up8 len)) (nat_lt j (off + up8 len)) refl refl)
  where
    le_and : (a b c d : Bool) → a ≡ b → c ≡ d → (a && c) ≡ (b && d)
    le_and a b c d p q = λ t. p t && q t

    first : (a b : Bool) → nat_le off i ≡ a → nat_le off j ≡ b → a ≡ b
    first true true p q = refl
    first false false p q = refl
    first true false p q = absurd (grind (arith, nat_tests))
    first false true p q = absurd (grind (arith, nat_tests))

    second : (a b : Bool) → nat_lt i (off + up8 len) ≡ a → nat_lt j (off + up8 len) ≡ b → a ≡ b
    second true true p q = refl
    second false false p q = refl
    second true false p q = let x : i < off + up8 len = grind (arith, nat_tests) in let y : off + up8 len ≤ j = grind (arith, nat_tests) in absurd (omega (arith, x, y, by8, e))
    second false true p q = let x : j < off + up8 len = grind (arith, nat_tests) in let y : off + up8 len ≤ i = grind (arith, nat_tests) in absurd (omega (arith, x, y, by8, e))

holds_chunk : (p : List ℕ) (n k i j : ℕ) → Fit p n → k < n → i / 8 ≡ j / 8 → holds p k i ≡ holds p k j
holds_chunk p n k i j fit lt e = ⊎_elim
    (λ (t : ((lp_len p k == 0) ≡ true) × (lp_len p k ≡ 0)). holds_none p k i t.1 ∙ sym (holds_none p k j t.1))
    (λ (f : ((lp_len p k == 0) ≡ false) × (lp_len p k ≢ 0)). open_holds p k i ∙ chunk_test (lp_off p k) (lp_len p k) i j (fit k lt (omega (arith, f.1))).by8 e ∙ sym (open_holds p k j))
    (eqb_tells (lp_len p k) 0)

pub holder_chunk : (p : List ℕ) (n i j : ℕ) → Fit p n → i / 8 ≡ j / 8 → holder p n i ≡ holder p n j
holder_chunk p zero i j fit e = refl
holder_chunk p (suc n) i j fit e =
    let a = holds_chunk p (suc n) n i j fit (omega arith) e in
    let b = holder_chunk p n i j (λ k lt. fit k (omega arith)) e in
    λ t. if (a t) then Some n else b t
