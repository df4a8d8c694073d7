-- Items at places.
use Rattle.std.proofs.Common.{◌≡◌, ℕ, ◌-◌, ◌<◌, ◌≤◌, ◌==◌, List, Bool, true, false, length, drop, refl, ◌∙◌, ap, arith}
use Rattle.std.specs.Prelude.{nat_le, nat_lt}
use Rattle.std.proofs.lemmas.Bool.Decides.{nat_tests}
use Rattle.std.proofs.lemmas.List.{length-take}
use Rattle.page_layout.specs.Bytes.{cut}
use Rattle.page_layout.specs.Page.{count, lp_off, lp_len, item, IsFormed}
use Rattle.page_layout.specs.Overwrite.{has_item}
use Rattle.page_layout.proofs.BytesLemmas.{length-cut}
use Rattle.page_layout.proofs.ShapeLemmas.{held_in}

length-cut-le : (p : List ℕ) (at n : ℕ) → length (cut p at n) ≤ n
unfolding cut
length-cut-le p at n = omega (arith, length-take n (drop at p))

-- an item has its line's length, and is short
pub record ItemSize (p : List ℕ) (k : ℕ) : Type 0 where
  pub size : length (item p k) ≡ lp_len p k
  pub small : length (item p k) ≤ 8168

pub item_size : (p : List ℕ) (k : ℕ) → IsFormed p → k < count p → ItemSize p k
item_size p k f there = by_case (lp_len p k == 0) refl
  where
    by_case : (b : Bool) → (lp_len p k == 0) ≡ b → ItemSize p k
    by_case true e =
        let none : lp_len p k ≡ 0 = grind (arith, nat_tests, e) in
        let le = length-cut-le p (lp_off p k) (lp_len p k) in
        record { size = omega (arith, le, none); small = omega (arith, le, none) }
    by_case false e =
        let some : 0 < lp_len p k = grind (arith, nat_tests, e) in
        let i = held_in p k f there some in
        let size = length-cut p (lp_off p k) (lp_len p k) (omega (arith, i.to, f.head.top, f.size)) in
        record { size = size; small = omega (arith, size, i.from, i.to, f.head.top, f.head.low, f.head.mid) }

pub item_small : (p : List ℕ) (k : ℕ) → IsFormed p → k < count p → length (item p k) ≤ 8168
item_small p k f there = let s = item_size p k f there in s.small

-- whether a place that is there has an item
module _ (p bytes : List ℕ) (place at : ℕ) (f : IsFormed p) (is : at ≡ place) (some : 0 < place) (there : place ≤ count p) (e : bytes ≡ item p (at - 1)) where
  here : bytes ≡ item p (place - 1)
  here = e ∙ ap (λ n. item p (n - 1)) is

  abbrev size : ItemSize p (place - 1)
  size = item_size p (place - 1) f (omega (arith, some, there))

  placed : (b : Bool) → nat_lt 0 (lp_len p (place - 1)) ≡ b → has_item p place ≡ b
  placed b h =
      let x : nat_lt 0 place ≡ true = grind (arith, nat_tests, some) in
      let y : nat_le place (count p) ≡ true = grind (arith, nat_tests, there) in
      rw (x, y) h

  pub no_item : (length bytes == 0) ≡ true → has_item p place ≡ false
  no_item none =
      let zero : length bytes ≡ 0 = grind (arith, nat_tests, none) in
      let len : lp_len p (place - 1) ≡ 0 = omega (arith, size.size, ap length here, zero) in
      placed false (grind (arith, nat_tests, len))

  pub an_item : (length bytes == 0) ≡ false → (has_item p place ≡ true) × (bytes ≡ item p (place - 1)) × (length bytes ≤ 8168)
  an_item more =
      let above : 0 < length bytes = grind (arith, nat_tests, more) in
      let len : 0 < lp_len p (place - 1) = omega (arith, size.size, ap length here, above) in
      (placed true (grind (arith, nat_tests, len)), here, omega (arith, size.small, ap length here))
