-- The number of the new segment.
use Rattle.std.proofs.Common.{◌≡◌, ℕ, ◌+◌, ◌-◌, ◌*◌, ◌/◌, ◌^◌, ◌<◌, ◌≤◌, ◌||◌, Bool, true, false, Option, Some, None, add-zero, inl, inr, IsTrue, ◌↔◌, refl, sym, ap, ◌∙◌, mul_assoc, arith, rules}
use Rattle.std.specs.Prelude.{if◌then◌else◌, nat_le}
use Rattle.std.proofs.Math.Nat.{mul-le-mul_right}
use Rattle.std.proofs.lemmas.Bool.{cases_lt, leb-true}
use Rattle.std.proofs.lemmas.Nat.{div-mul-add, div-add-mod', mod_below}
use Rattle.wal_base.specs.SegSize.{IsSegSize}
use Rattle.wal_base.specs.Segment.{bytes_of}
use Rattle.wal_base.specs.declared.seg_size.SegSize.{SegSize}
use Rattle.wal_base.specs.declared.segment.Segment.{Segment}
use Rattle.wal_base.proofs.SizeLemmas.{SizeFacts, size_facts}
use Rattle.reset_numbers.specs.Names.{given_number, is_low_past, is_past, next_number}
use Rattle.reset_numbers.specs.NewControl.{new_tli}
use Rattle.reset_numbers.specs.Behind.{segment_behind}

-- so many segments lie below the limit
quotient : (bytes : ℕ) → (f : SizeFacts bytes) → 2 ^ 31 * f.per_high * bytes ≡ 2 ^ 63
quotient bytes f = mul_assoc (2 ^ 31) f.per_high bytes ∙ ap (λ x. 2 ^ 31 * x) f.all

limit_is : (bytes : ℕ) → IsSegSize bytes → (q : ℕ) × (2 ^ 63 / bytes ≡ q) × (q * bytes ≡ 2 ^ 63)
limit_is bytes s =
    let f = size_facts bytes s in
    let q : ℕ = 2 ^ 31 * f.per_high in
    let whole : q * bytes ≡ 2 ^ 63 = quotient bytes f in
    let same : 2 ^ 63 / bytes ≡ q = ap (λ n. n / bytes) (sym whole ∙ sym (add-zero (q * bytes))) ∙ div-mul-add q bytes 0 (omega (arith, s.least)) in
    (q, same, whole)

pub at_limit : (bytes number : ℕ) → IsSegSize bytes → 2 ^ 63 / bytes ≤ number → 2 ^ 63 ≤ number * bytes
at_limit bytes number s h =
    let (q, same, whole) = limit_is bytes s in
    let up : q ≤ number = omega (arith, same, h) in
    omega (arith, whole, mul-le-mul_right bytes up)

pub below_limit : (bytes number : ℕ) → IsSegSize bytes → number < 2 ^ 63 / bytes → number * bytes + bytes ≤ 2 ^ 63
below_limit bytes number s h =
    let (q, same, whole) = limit_is bytes s in
    let up : number + 1 ≤ q = omega (arith, same, h) in
    omega (arith, whole, mul-le-mul_right bytes up)

-- the next segment is behind the last byte of the one before it
pub next_past : (old new number : ℕ) → IsSegSize old → IsSegSize new → 2 ^ 63 / old ≤ number → 2 ^ 63 ≤ next_number old new number * new
next_past old new number s t h =
    let last : ℕ = number * old + old - 1 in
    let far = at_limit old number s h in
    omega (arith, far, s.least, t.least, div-add-mod' last new, mod_below last new (omega (arith, t.least)))

le_true : (a b : ℕ) → a ≤ b → nat_le a b ≡ true
le_true a b l = grind (arith, rules, l)

le_false : (a b : ℕ) → b < a → nat_le a b ≡ false
le_false a b l = grind (arith, rules, l)

or_true : (b : Bool) → (b || true) ≡ true
or_true true = refl
or_true false = refl

pub low_past : (bytes number : ℕ) (given : Option (ℕ × ℕ × ℕ)) → is_low_past bytes given ≡ true → is_past bytes given number ≡ true
low_past bytes number given low = ap (λ b. b || nat_le (2 ^ 63) (given_number bytes given number * bytes)) low

pub number_past : (bytes number : ℕ) (given : Option (ℕ × ℕ × ℕ)) → 2 ^ 63 ≤ given_number bytes given number * bytes → is_past bytes given number ≡ true
number_past bytes number given far = ap (λ b. is_low_past bytes given || b) (le_true (2 ^ 63) (given_number bytes given number * bytes) far) ∙ or_true (is_low_past bytes given)

not_less : (bytes number : ℕ) (given : Option (ℕ × ℕ × ℕ)) → number ≤ given_number bytes given number
not_less bytes number None = omega arith
not_less bytes number (Some log) = omega arith

pub next_is_past : (bytes number : ℕ) (given : Option (ℕ × ℕ × ℕ)) → 2 ^ 63 ≤ number * bytes → is_past bytes given number ≡ true
next_is_past bytes number given far = number_past bytes number given (omega (arith, far, mul-le-mul_right bytes (not_less bytes number given)))

pub not_past : (bytes number : ℕ) (given : Option (ℕ × ℕ × ℕ)) → is_low_past bytes given ≡ false → given_number bytes given number * bytes < 2 ^ 63 → is_past bytes given number ≡ false
not_past bytes number given low near = ap (λ b. b || nat_le (2 ^ 63) (given_number bytes given number * bytes)) low ∙ le_false (2 ^ 63) (given_number bytes given number * bytes) near

-- ---- the segment

abbrev seg : ℕ → ℕ → SegSize → Segment
seg t n size = record { tli = t; number = n; size = size }

abbrev made : Option (ℕ × ℕ × ℕ) → ℕ → SegSize → ℕ → Bool → Option Segment
made given tli size number past = if past then None else Some (seg (new_tli given tli) (given_number (bytes_of size) given number) size)

pub no_segment : (given : Option (ℕ × ℕ × ℕ)) (tli old : ℕ) (size : SegSize) (greatest : ℕ) → is_past (bytes_of size) given (next_number old (bytes_of size) greatest) ≡ true → None ≡ segment_behind given tli old size greatest
no_segment given tli old size greatest past = sym (ap (made given tli size (next_number old (bytes_of size) greatest)) past)

pub next_is : (old new number : ℕ) → 1 ≤ old → (number * old + (old - 1)) / new + 1 ≡ next_number old new number
next_is old new number some = ap (λ n. n / new + 1) (omega (arith, some))

to_limit : (bytes number : ℕ) → IsSegSize bytes → 2 ^ 63 ≤ number * bytes → 2 ^ 63 / bytes ≤ number
to_limit bytes number s far = elim (cases_lt number (2 ^ 63 / bytes)) [
  | inl less ↦ absurd (omega (arith, far, below_limit bytes number s less, s.least))
  | inr more ↦ more
]

pub reach : (bytes n number : ℕ) → IsSegSize bytes → n ≡ bytes → IsTrue (nat_le (2 ^ 63 / n) number) ↔ (2 ^ 63 ≤ number * bytes)
reach bytes n number s is = (
  λ h. at_limit bytes number s (omega (arith, leb-true (2 ^ 63 / n) number h, ap (λ k. 2 ^ 63 / k) is)),
  λ far. le_true (2 ^ 63 / n) number (omega (arith, to_limit bytes number s far, ap (λ k. 2 ^ 63 / k) is)),
)

pub ruleset limit_steps = (at_limit, below_limit, next_past, next_is)
