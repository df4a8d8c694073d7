-- Steps of a reading that didn't fail.
use Rattle.std.proofs.Common.{◌≡◌, ℕ, ◌<◌, Bool, true, false, cond, ltb, eqb, ◌⊎◌, inl, inr, Option, Some, None, Result, Ok, Err, refl, arith, option_and_then}
use Rattle.std.specs.Prelude.{◌↔◌}
use Rattle.std.proofs.lemmas.Bool.Decides.{nat_tests}
use Rattle.block_refs.specs.declared.fault.Flaw.{Flaw}
use Rattle.block_refs.specs.Fragment.{given}

pub then_some : {A : Type 0} (b : Bool) (x : Option A) (y : A) → cond b x None ≡ Some y → (b ≡ true) × (x ≡ Some y)
then_some true x y e = (refl, e)
then_some false x y e = absurd cc

pub else_some : {A : Type 0} (b : Bool) (x : Option A) (y : A) → cond b None x ≡ Some y → (b ≡ false) × (x ≡ Some y)
else_some true x y e = absurd cc
else_some false x y e = (refl, e)

pub either_some : {A : Type 0} (b : Bool) (v : A) (x : Option A) (y : A) → cond b (Some v) x ≡ Some y → ((b ≡ true) × (v ≡ y)) ⊎ ((b ≡ false) × (x ≡ Some y))
either_some true v x y e = inl (refl, cc)
either_some false v x y e = inr (refl, e)

pub bind_some : {A B : Type 0} (f : A → Option B) (o : Option A) (y : B) → option_and_then f o ≡ Some y → (x : A) × (o ≡ Some x) × (f x ≡ Some y)
bind_some f None y e = absurd cc
bind_some f (Some x) y e = (x, refl, e)

pub some_is : {A : Type 0} (x y : A) → Some x ≡ Some y → x ≡ y
some_is x y e = cc

pub agree_found : (has : Bool) (size : ℕ) → cond has (ltb 0 size) (eqb size 0) ≡ true → (has ≡ true) ↔ (0 < size)
agree_found true size e = (λ _. grind (arith, nat_tests), λ _. refl)
agree_found false size e = (λ h. absurd cc, λ h. absurd (grind (arith, nat_tests)))

pub agree_again : (has : Bool) (size : ℕ) → (has ≡ true) ↔ (0 < size) → cond has (ltb 0 size) (eqb size 0) ≡ true
agree_again true size h = let some : 0 < size = h.0 refl in grind (arith, nat_tests)
agree_again false size h = by (ltb 0 size) refl
  where
    by : (b : Bool) → ltb 0 size ≡ b → eqb size 0 ≡ true
    by true e = let some : 0 < size = grind (arith, nat_tests) in let no : false ≡ true = h.1 some in absurd cc
    by false e = grind (arith, nat_tests)

-- which way a choice went
pub either_way : {A : Type 0} (b : Bool) (x y z : A) → cond b x y ≡ z → ((b ≡ true) × (x ≡ z)) ⊎ ((b ≡ false) × (y ≡ z))
either_way true x y z e = inl (refl, e)
either_way false x y z e = inr (refl, e)

pub given_ok : {A B : Type 0} (f : A → Result B Flaw) (r : Result A Flaw) (y : B) → given r f ≡ Ok y → (x : A) × (r ≡ Ok x) × (f x ≡ Ok y)
given_ok f (Ok x) y e = (x, refl, e)
given_ok f (Err d) y e = absurd cc

pub given_err : {A B : Type 0} (f : A → Result B Flaw) (r : Result A Flaw) (d : Flaw) → given r f ≡ Err d → (r ≡ Err d) ⊎ ((x : A) × (r ≡ Ok x) × (f x ≡ Err d))
given_err f (Ok x) d e = inr (x, refl, e)
given_err f (Err g) d e = inl cc
