-- The header's and the lines' numbers as numbers of two bytes.
use Rattle.std.proofs.Common.{◌≡◌, ℕ, ◌+◌, ◌*◌, ◌/◌, ◌%◌, List, refl, ap}
use Rattle.page_layout.specs.Bytes.{u16_at}
use Rattle.page_layout.specs.Page.{pd_lower, pd_upper, pd_special, lp_off, lp_flags, lp_len}

pub lower_u16 : (p : List ℕ) → pd_lower p ≡ u16_at p 12
unfolding pd_lower
lower_u16 p = refl

pub upper_u16 : (p : List ℕ) → pd_upper p ≡ u16_at p 14
unfolding pd_upper
upper_u16 p = refl

pub special_u16 : (p : List ℕ) → pd_special p ≡ u16_at p 16
unfolding pd_special
special_u16 p = refl

pub off_u16 : (p : List ℕ) (k : ℕ) → lp_off p k ≡ u16_at p (24 + 4 * k) % 32768
unfolding lp_off
off_u16 p k = refl

pub len_u16 : (p : List ℕ) (k : ℕ) → lp_len p k ≡ u16_at p (26 + 4 * k) / 2
unfolding lp_len
len_u16 p k = refl

-- lines with the same numbers
pub off_same : (p q : List ℕ) (j k : ℕ) → u16_at p (24 + 4 * j) ≡ u16_at q (24 + 4 * k) → lp_off p j ≡ lp_off q k
unfolding lp_off
off_same p q j k e = ap (λ w. w % 32768) e

pub len_same : (p q : List ℕ) (j k : ℕ) → u16_at p (26 + 4 * j) ≡ u16_at q (26 + 4 * k) → lp_len p j ≡ lp_len q k
unfolding lp_len
len_same p q j k e = ap (λ w. w / 2) e

pub flags_same : (p q : List ℕ) (j k : ℕ) → u16_at p (24 + 4 * j) ≡ u16_at q (24 + 4 * k) → u16_at p (26 + 4 * j) ≡ u16_at q (26 + 4 * k) → lp_flags p j ≡ lp_flags q k
unfolding lp_flags
flags_same p q j k e f = λ t. e t / 32768 % 2 + 2 * (f t % 2)
