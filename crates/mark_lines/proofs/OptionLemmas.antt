-- Chains of choices that gave a value.
use Rattle.std.proofs.Common.{◌≡◌, ℕ, Bool, true, false, Option, None, Some, option_map, Result, Ok, Err, refl, if◌then◌else◌}
use Rattle.mark_lines.specs.Lines.{and_then}

pub if_some : {A : Type 0} (b : Bool) (o : Option A) (y : A) → (if b then o else None) ≡ Some y → (b ≡ true) × (o ≡ Some y)
if_some true o y e = (refl, e)
if_some false o y e = absurd cc

pub choice : {A P : Type 0} (b : Bool) (o p : Option A) (y : A) → (if b then o else p) ≡ Some y → (b ≡ true → o ≡ Some y → P) → (p ≡ Some y → P) → P
choice true o p y e k l = k refl e
choice false o p y e k l = l e

pub map_some : {A B P : Type 0} (f : A → B) (o : Option A) (y : B) → option_map f o ≡ Some y → ((x : A) → o ≡ Some x → f x ≡ y → P) → P
map_some f None y e k = absurd cc
map_some f (Some x) y e k = k x refl cc

pub and_then_ok : {A B P : Type 0} (m : Result A ℕ) (more : A → Result B ℕ) (y : B) → and_then m more ≡ Ok y → ((x : A) → m ≡ Ok x → more x ≡ Ok y → P) → P
and_then_ok (Ok x) more y e k = k x refl e
and_then_ok (Err n) more y e k = absurd cc
