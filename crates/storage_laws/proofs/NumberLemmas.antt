-- Numbers of blocks, and their files and places.
use Rattle.std.proofs.Common.{◌≡◌, ℕ, ◌+◌, ◌*◌, ◌/◌, ◌%◌, ◌<◌, ◌≤◌, ◌==◌, Bool, true, false, ◌&&◌, nat_lt, refl, ap₂, sym, ◌∙◌, arith}
use Rattle.std.proofs.lemmas.Bool.Decides.{nat_tests}
use Rattle.std.proofs.lemmas.Nat.{div-mul-add, mod-mul-add}
use Rattle.std.proofs.Math.Nat.{div-add-mod', mod-lt, mul-le-mul_left, mul-le-mul_right, add-mul}

-- tests

pub by_order : {P : Type 0} (a b : ℕ) → (a < b → P) → (b ≤ a → P) → P
by_order {P} a b less more = elim (nat_lt a b) as (λ t. nat_lt a b ≡ t → P) [
  | true ↦ λ e. less (let l : a < b = grind (arith, nat_tests) in l)
  | false ↦ λ e. more (let l : b ≤ a = grind (arith, nat_tests) in l)
] refl

pub by_test : {P : Type 0} (b : Bool) → (b ≡ true → P) → (b ≡ false → P) → P
by_test {P} b so else_so = elim b as (λ t. b ≡ t → P) [ true ↦ so | false ↦ else_so ] refl

pub lt-yes : (a b : ℕ) → a < b → nat_lt a b ≡ true
lt-yes a b l = grind (arith, nat_tests)

pub lt-no : (a b : ℕ) → b ≤ a → nat_lt a b ≡ false
lt-no a b l = grind (arith, nat_tests)

pub eq-yes : (a b : ℕ) → a ≡ b → (a == b) ≡ true
eq-yes a b e = grind (arith, nat_tests)

pub eq-no : (a b : ℕ) → a < b → (a == b) ≡ false
eq-no a b l = grind (arith, nat_tests)

pub eq-no_more : (a b : ℕ) → b < a → (a == b) ≡ false
eq-no_more a b l = grind (arith, nat_tests)

pub eq-is : (a b : ℕ) → (a == b) ≡ true → a ≡ b
eq-is a b e = grind (arith, nat_tests)

pub and-parts : (a b : Bool) → (a && b) ≡ true → (a ≡ true) × (b ≡ true)
and-parts true b h = (refl, h)
and-parts false b h = absurd cc

pub and-both : (a b : Bool) → a ≡ true → b ≡ true → (a && b) ≡ true
and-both a b h k = ap₂ (λ x y. x && y) h k

-- the file of a block, and its place there

pub record IsAt (per block file place : ℕ) : Type 0 where
  pub is : block ≡ file * per + place
  pub few : place < per

pub its-place : (per block : ℕ) → 0 < per → IsAt per block (block / per) (block % per)
its-place per block some = record { is = sym (div-add-mod' block per); few = mod-lt block some }

pub file-before : (per a b s t p q : ℕ) → IsAt per a s p → IsAt per b t q → s < t → a < b
file-before per a b s t p q at to l =
    let step : (s + 1) * per ≤ t * per = mul-le-mul_right per (omega (arith, l)) in
    let more : (s + 1) * per ≡ s * per + 1 * per = add-mul s 1 per in
    omega (arith, step, more, at.is, at.few, to.is)

pub file-of : (per file place : ℕ) → place < per → (file * per + place) / per ≡ file
file-of per file place few = div-mul-add file per place few

pub place-of : (per file place : ℕ) → place < per → (file * per + place) % per ≡ place
place-of per file place few = mod-mul-add file per place few

-- two blocks of one file, and their places
pub places-eq : (p q a b : ℕ) → a + q ≡ b + p → (p == q) ≡ (a == b)
places-eq p q a b e = by_order p q
    (λ l. eq-no p q l ∙ sym (eq-no a b (omega (arith, e, l))))
    (λ m. by_order q p (λ l. eq-no_more p q l ∙ sym (eq-no_more a b (omega (arith, e, l)))) (λ l. eq-yes p q (omega (arith, l, m)) ∙ sym (eq-yes a b (omega (arith, e, l, m)))))

pub places-lt : (p q a b : ℕ) → a + q ≡ b + p → nat_lt q p ≡ nat_lt b a
places-lt p q a b e = by_order q p (λ l. lt-yes q p l ∙ sym (lt-yes b a (omega (arith, e, l)))) (λ m. lt-no q p m ∙ sym (lt-no b a (omega (arith, e, m))))

-- a file's number is no greater than its blocks'
pub file-least : (per block : ℕ) → 0 < per → block / per ≤ block
file-least per block some =
    let at = its-place per block some in
    let whole : block / per * 1 ≤ block / per * per = mul-le-mul_left (block / per) (omega (arith, some)) in
    omega (arith, whole, at.is)
