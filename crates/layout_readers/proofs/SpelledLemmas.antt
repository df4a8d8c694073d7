-- A value that is read off bytes is spelled as these.
use Rattle.std.proofs.Common.{◌≡◌, ◌≤◌, ◌<◌, ◌+◌, ◌*◌, ◌/◌, ◌%◌, ◌^◌, ℕ, zero, suc, List, [], ◌∷◌, length, take, drop, get_or, refl, sym, ap, subst, ◌∙◌, arith, length-drop, length-take-le}
use Rattle.std.specs.Prelude.{ℤ, pos, slice_index}
use Rattle.std.specs.Int.{w64, byte_at, bytes_low_first, cast_signed, cast_unsigned}
use Rattle.std.specs.Int.RustNames.{FitsSigned}
use Rattle.std.proofs.Math.Nat.{div-div-eq-div-mul, pow-succ'}
use Rattle.std.proofs.lemmas.Int.{of_z-to_z, ints}
use Rattle.std.proofs.lemmas.List.{get_or-drop}
use Rattle.byteorder.specs.Endian.{little_bytes, little_from, little_number}
use Rattle.byteorder.specs.Numbers.{little_from-cons, little_from-lt}
use Rattle.layout.specs.declared.value.Value.{Value}
use Rattle.layout.specs.declared.value.Value.TheVariants.{Byte, Half, Word, Long, Signed, Raw}
use Rattle.layout.specs.Readers.{u8_at, u16_at, u32_at, u64_at, i64_at, value_at}
use Rattle.layout.specs.Values.{ValueFits, number, width}
use Rattle.layout.specs.Writing.{value_bytes}
use Rattle.layout_readers.specs.Rows.{AreBytes}

-- the bytes of a number above its lowest are those of what is left of it above that
byte_above : (j x : ℕ) → byte_at (suc j) x ≡ byte_at j (x / 256)
byte_above zero x = refl
byte_above (suc j) x = ap (λ (p : ℕ). x / p % 256) (pow-succ' 256 (suc j)) ∙ ap (λ (q : ℕ). q % 256) (sym (div-div-eq-div-mul x 256 (256 ^ suc j)))

bytes_above : (n j x : ℕ) → bytes_low_first (suc j) n x ≡ bytes_low_first j n (x / 256)
bytes_above zero j x = refl
bytes_above (suc n) j x = rw (byte_above j x, bytes_above n (suc j) x) refl

-- the number in bytes is spelled by these
pub number_spelled : (n : ℕ) (xs : List ℕ) → n ≤ length xs → AreBytes xs → little_bytes n (little_number n xs) ≡ take n xs
number_spelled zero xs room bytes = refl
number_spelled (suc n) [] room bytes = absurd (omega arith)
number_spelled (suc n) (x ∷ xs) room bytes =
    let low : x < 256 = bytes 0 in
    let rest : little_from 1 n (x ∷ xs) ≡ little_from 0 n xs = little_from-cons 0 n x xs in
    let high = little_from 0 n xs in
    let lowest : (x + 256 * high) % 256 ≡ x = omega arith in
    let above : (x + 256 * high) / 256 ≡ high = omega arith in
    let others : bytes_low_first 0 n high ≡ take n xs = number_spelled n xs (omega arith) (λ i. bytes (suc i)) in
    rw (rest, bytes_above n 0 (x + 256 * high), lowest, above, others) refl

still_bytes : (at : ℕ) (bytes : List ℕ) → AreBytes bytes → AreBytes (drop at bytes)
still_bytes at bytes are i = rw (get_or-drop at bytes i 0) (are (at + i))

-- a value that stands there is spelled so, and fits
pub record Spelled (v : Value) (at : ℕ) (bytes : List ℕ) : Type 0 where
  pub fits : ValueFits v
  pub is : value_bytes v ≡ take (width v) (drop at bytes)

take_one : (xs : List ℕ) → 1 ≤ length xs → get_or xs 0 0 ∷ [] ≡ take 1 xs
take_one [] room = absurd (omega arith)
take_one (x ∷ xs) room = refl

one_at : (at : ℕ) (bytes : List ℕ) → at + 1 ≤ length bytes → slice_index bytes at ∷ [] ≡ take 1 (drop at bytes)
one_at at bytes room =
    let there : 1 ≤ length (drop at bytes) = omega (arith, length-drop at bytes) in
    let same : slice_index bytes at ≡ get_or (drop at bytes) 0 0 = sym (get_or-drop at bytes 0 0 ∙ ap (λ (i : ℕ). get_or bytes i 0) (omega arith)) in
    ap (λ (n : ℕ). n ∷ []) same ∙ take_one (drop at bytes) there

number_at : (n at : ℕ) (bytes : List ℕ) → at + n ≤ length bytes → AreBytes bytes → little_bytes n (little_number n (drop at bytes)) ≡ take n (drop at bytes)
number_at n at bytes room are = number_spelled n (drop at bytes) (omega (arith, length-drop at bytes)) (still_bytes at bytes are)

number_fits : (n at : ℕ) (bytes : List ℕ) → AreBytes bytes → little_number n (drop at bytes) < 256 ^ n
number_fits n at bytes are = little_from-lt 0 n (drop at bytes) (still_bytes at bytes are)

signed_in : Value → ℤ
signed_in (Byte n) = pos n
signed_in (Half n) = pos n
signed_in (Word n) = pos n
signed_in (Long n) = pos n
signed_in (Signed z) = z
signed_in (Raw bytes) = pos 0

raw_in : Value → List ℕ
raw_in (Byte n) = []
raw_in (Half n) = []
raw_in (Word n) = []
raw_in (Long n) = []
raw_in (Signed z) = []
raw_in (Raw bytes) = bytes

signed_fits : (n : ℕ) → n < 2 ^ 64 → FitsSigned w64 (cast_signed w64 n)
signed_fits n below = omega (arith, ints)

pub value_spelled : (v : Value) (at : ℕ) (bytes : List ℕ) → AreBytes bytes → at + width v ≤ length bytes → value_at v at bytes ≡ v → Spelled v at bytes
unfolding value_bytes u8_at u16_at u32_at u64_at i64_at signed_in raw_in
value_spelled (Byte n) at bytes are room is =
    let e : slice_index bytes at ≡ n = ap number is in
    record { fits = subst (λ (k : ℕ). k < 2 ^ 8) e (are at); is = ap (λ (k : ℕ). k ∷ []) (sym e) ∙ one_at at bytes room }
value_spelled (Half n) at bytes are room is =
    let e : little_number 2 (drop at bytes) ≡ n = ap number is in
    record { fits = subst (λ (k : ℕ). k < 2 ^ 16) e (number_fits 2 at bytes are); is = ap (little_bytes 2) (sym e) ∙ number_at 2 at bytes room are }
value_spelled (Word n) at bytes are room is =
    let e : little_number 4 (drop at bytes) ≡ n = ap number is in
    record { fits = subst (λ (k : ℕ). k < 2 ^ 32) e (number_fits 4 at bytes are); is = ap (little_bytes 4) (sym e) ∙ number_at 4 at bytes room are }
value_spelled (Long n) at bytes are room is =
    let e : little_number 8 (drop at bytes) ≡ n = ap number is in
    record { fits = subst (λ (k : ℕ). k < 2 ^ 64) e (number_fits 8 at bytes are); is = ap (little_bytes 8) (sym e) ∙ number_at 8 at bytes room are }
value_spelled (Signed z) at bytes are room is =
    let n = little_number 8 (drop at bytes) in
    let below : n < 2 ^ 64 = number_fits 8 at bytes are in
    let e : cast_signed w64 n ≡ z = ap signed_in is in
    record {
      fits = subst (λ (k : ℤ). FitsSigned w64 k) e (signed_fits n below);
      is = ap (λ (k : ℤ). little_bytes 8 (cast_unsigned w64 k)) (sym e) ∙ ap (little_bytes 8) (of_z-to_z w64 n below) ∙ number_at 8 at bytes room are;
    }
value_spelled (Raw raw) at bytes are room is =
    let e : take 32 (drop at bytes) ≡ raw = ap raw_in is in
    let there : 32 ≤ length (drop at bytes) = omega (arith, length-drop at bytes) in
    record { fits = ap length (sym e) ∙ length-take-le 32 (drop at bytes) there; is = sym e }
