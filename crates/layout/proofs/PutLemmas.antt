-- Values are read again where their bytes stand.
use Rattle.std.proofs.Common.{◌≡◌, ℕ, zero, suc, ◌+◌, ◌^◌, ◌<◌, ◌≤◌, List, [], length, take, drop, get_or, refl, sym, ap, ◌∙◌, arith}
use Rattle.std.specs.Int.{w64, cast_signed, cast_unsigned}
use Rattle.std.proofs.lemmas.Int.{to_z-of_z, ints}
use Rattle.std.proofs.lemmas.List.{append-nil, get_or-drop, take_at}
use Rattle.std.proofs.lemmas.List.Prefix.{at_from_reads}
use Rattle.byteorder.specs.Endian.{little_bytes, little_from, little_number}
use Rattle.byteorder.specs.Numbers.{little_number-reads_back, length-bytes_low_first}
use Rattle.layout.specs.Readers.{u8_at, u16_at, u32_at, u64_at, i64_at, value_at}
use Rattle.layout.specs.Values.{width, ValueFits}
use Rattle.layout.specs.Writing.{value_bytes}
use Rattle.layout.specs.declared.value.Value.{Value}
use Rattle.layout.specs.declared.value.Value.TheVariants.{Byte, Half, Word, Long, Signed, Raw}
use Rattle.layout.proofs.SpliceLemmas.{Stands}

-- a value has as many bytes as its form says
pub length-value_bytes : (v : Value) → ValueFits v → length (value_bytes v) ≡ width v
unfolding value_bytes
length-value_bytes (Byte n) fits = refl
length-value_bytes (Half n) fits = refl
length-value_bytes (Word n) fits = refl
length-value_bytes (Long n) fits = refl
length-value_bytes (Signed z) fits = refl
length-value_bytes (Raw bytes) fits = fits

little_from-same : (i n : ℕ) (xs ys : List ℕ) → ((k : ℕ) → k < i + n → get_or xs k 0 ≡ get_or ys k 0) → little_from i n xs ≡ little_from i n ys
little_from-same i zero xs ys same = refl
little_from-same i (suc n) xs ys same =
    let here = same i (omega arith) in
    let rest = little_from-same (suc i) n xs ys (λ k lt. same k (omega arith)) in
    rw (here, rest) refl

number_again : (n x at : ℕ) (bytes : List ℕ) → x < 256 ^ n → Stands at (little_bytes n x) bytes → little_number n (drop at bytes) ≡ x
number_again n x at bytes fits stands =
    let same : little_from 0 n (drop at bytes) ≡ little_from 0 n (little_bytes n x) =
    little_from-same 0 n (drop at bytes) (little_bytes n x) (λ k lt. get_or-drop at bytes k 0 ∙ stands k (omega (arith, length-bytes_low_first 0 n x))) in
    same ∙ ap (little_from 0 n) (sym (append-nil (little_bytes n x))) ∙ little_number-reads_back n x [] fits

-- where a value's bytes stand, the value is read
pub value_again : (v : Value) (at : ℕ) (bytes : List ℕ) → ValueFits v → at + width v ≤ length bytes → Stands at (value_bytes v) bytes → value_at v at bytes ≡ v
unfolding value_bytes u8_at u16_at u32_at u64_at i64_at
value_again (Byte n) at bytes fits room stands = ap Byte (ap (λ (k : ℕ). get_or bytes k 0) (omega arith) ∙ stands 0 (omega arith))
value_again (Half n) at bytes fits room stands = ap Half (number_again 2 n at bytes (omega arith) stands)
value_again (Word n) at bytes fits room stands = ap Word (number_again 4 n at bytes (omega arith) stands)
value_again (Long n) at bytes fits room stands = ap Long (number_again 8 n at bytes (omega arith) stands)
value_again (Signed z) at bytes fits room stands =
    let below : cast_unsigned w64 z < 256 ^ 8 = omega (arith, ints) in
    ap Signed (ap (cast_signed w64) (number_again 8 (cast_unsigned w64 z) at bytes below stands) ∙ to_z-of_z w64 z fits)
value_again (Raw new) at bytes fits room stands = ap Raw (ap (take 32) (at_from_reads 0 bytes new at (omega arith) stands) ∙ take_at new (drop (at + length new) bytes) 32 fits)
