-- Items in a row, one at a time.
use Rattle.std.proofs.Common.{◌≡◌, ℕ, zero, suc, ◌+◌, ◌-◌, ◌<◌, ◌≤◌, Bool, true, false, cond, List, ◌∷◌, length, Option, Some, None, is_some, refl, sym, ap, subst, ◌∙◌, arith}
use Rattle.block_layouts.specs.Row.{row_of, end_of, whole_end}

less_one : (n : ℕ) → suc n - 1 ≡ n
less_one n = omega arith

module _ {P X : Type 0} (item_at : List ℕ → P → X) (behind : List ℕ → P → P) where
  pub row_of-next : (n : ℕ) (bytes : List ℕ) (at : P) → 0 < n → row_of item_at behind n bytes at ≡ item_at bytes at ∷ row_of item_at behind (n - 1) bytes (behind bytes at)
  row_of-next zero bytes at lt = absurd (omega arith)
  row_of-next (suc n) bytes at lt = rw (less_one n) refl

  pub length-row_of : (n : ℕ) (bytes : List ℕ) (at : P) → length (row_of item_at behind n bytes at) ≡ n
  length-row_of zero bytes at = refl
  length-row_of (suc n) bytes at = ap (λ k. suc k) (length-row_of n bytes (behind bytes at))

module _ {P : Type 0} (behind : List ℕ → P → P) where
  pub end_of-next : (n : ℕ) (bytes : List ℕ) (at : P) → 0 < n → end_of behind n bytes at ≡ end_of behind (n - 1) bytes (behind bytes at)
  end_of-next zero bytes at lt = absurd (omega arith)
  end_of-next (suc n) bytes at lt = rw (less_one n) refl

  -- a loop over items
  pub end_of-step : (n i : ℕ) (bytes : List ℕ) (at end : P) → i < n → end_of behind (n - i) bytes at ≡ end → end_of behind (n - (i + 1)) bytes (behind bytes at) ≡ end
  end_of-step n i bytes at end lt same =
      let less : n - (i + 1) ≡ n - i - 1 = omega arith in
      rw less (sym (end_of-next (n - i) bytes at (omega arith)) ∙ same)

  pub end_of-all : (n i : ℕ) (bytes : List ℕ) (at end : P) → n ≤ i → end_of behind (n - i) bytes at ≡ end → at ≡ end
  end_of-all n i bytes at end le same =
      let none : n - i ≡ 0 = omega arith in
      subst (λ k. end_of behind k bytes at ≡ end) none same

-- what tells where an item ends tells whether it is there
pub stood : {P : Type 0} (b : Bool) (end next : P) → Some next ≡ cond b (Some end) None → (b ≡ true) × (next ≡ end)
stood true end next e = (refl, cc)
stood false end next e = absurd cc

pub fallen : {P : Type 0} (b : Bool) (end : P) → None ≡ cond b (Some end) None → b ≡ false
fallen true end e = absurd cc
fallen false end e = refl

both : {P : Type 0} (b : Bool) (o : Option P) → is_some (cond b o None) ≡ true → (b ≡ true) × (is_some o ≡ true)
both true o e = (refl, e)
both false o e = absurd cc

module _ {P : Type 0} (stands : List ℕ → P → Bool) (behind : List ℕ → P → P) where
  pub whole_end-next : (n : ℕ) (bytes : List ℕ) (at : P) → 0 < n → whole_end stands behind n bytes at ≡ cond (stands bytes at) (whole_end stands behind (n - 1) bytes (behind bytes at)) None
  whole_end-next zero bytes at lt = absurd (omega arith)
  whole_end-next (suc n) bytes at lt = rw (less_one n) refl

  -- where all items of a row are there, the first is, and those behind it are
  pub whole_end-first : (n : ℕ) (bytes : List ℕ) (at : P) → 0 < n → is_some (whole_end stands behind n bytes at) ≡ true
      → (stands bytes at ≡ true) × (is_some (whole_end stands behind (n - 1) bytes (behind bytes at)) ≡ true)
  whole_end-first zero bytes at lt e = absurd (omega arith)
  whole_end-first (suc n) bytes at lt e = rw (less_one n) (both (stands bytes at) (whole_end stands behind n bytes (behind bytes at)) e)

  -- one more item that is there
  pub whole_end-step : (n i : ℕ) (bytes : List ℕ) (at next : P) (end : Option P) → i < n → Some next ≡ cond (stands bytes at) (Some (behind bytes at)) None
      → whole_end stands behind (n - i) bytes at ≡ end → whole_end stands behind (n - (i + 1)) bytes next ≡ end
  whole_end-step n i bytes at next end lt told same =
      let s = stood (stands bytes at) (behind bytes at) next told in
      let less : n - (i + 1) ≡ n - i - 1 = omega arith in
      let there : cond (stands bytes at) (whole_end stands behind (n - i - 1) bytes (behind bytes at)) None ≡ whole_end stands behind (n - i - 1) bytes (behind bytes at) = rw s.0 refl in
      rw (less, s.1) (sym there ∙ sym (whole_end-next (n - i) bytes at (omega arith)) ∙ same)

  -- one that isn't
  pub whole_end-stop : (n i : ℕ) (bytes : List ℕ) (at : P) (end : Option P) → i < n → None ≡ cond (stands bytes at) (Some (behind bytes at)) None
      → whole_end stands behind (n - i) bytes at ≡ end → None ≡ end
  whole_end-stop n i bytes at end lt told same =
      let fell : cond (stands bytes at) (whole_end stands behind (n - i - 1) bytes (behind bytes at)) None ≡ None = rw (fallen (stands bytes at) (behind bytes at) told) refl in
      sym fell ∙ sym (whole_end-next (n - i) bytes at (omega arith)) ∙ same
