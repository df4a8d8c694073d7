-- The size that is made of so many bytes is theirs.
use Rattle.std.proofs.Common.{◌≡◌, ℕ, ◌^◌, ◌↔◌, ◌&&◌, nat_le, Bool, true, false, Option, None, Some, IsSome, IfSome, refl, ap}
use Rattle.std.specs.Coded.{Coded-set, coded_bool, le_prop}
use Rattle.std.specs.Int.{is_power_of_two}
use Rattle.std.proofs.lemmas.Bool.{and_from, le-leb}
use mathlib.Core.HLevel.{is_prop→PathP}
use Rattle.wal_base.specs.SegSize.{IsSegSize, is_seg_size}
use Rattle.wal_base.specs.Segment.{bytes_of}
use Rattle.wal_base.specs.SizeOfBytes.{is_size, size_when, size_of_bytes}
use Rattle.wal_base.specs.declared.seg_size.SegSize.{SegSize}

tested : (n : ℕ) → IsSegSize n → is_seg_size n ≡ true
tested n s =
    and_from (is_power_of_two n && nat_le (2 ^ 20) n) (nat_le n (2 ^ 30))
    (and_from (is_power_of_two n) (nat_le (2 ^ 20) n) s.power (le-leb (2 ^ 20) n s.least)) (le-leb n (2 ^ 30) s.greatest)

size-prop : (n : ℕ) → IsProp (IsSegSize n)
size-prop n x y = λ i. record { power = Coded-set coded_bool _ _ x.power y.power i; least = le_prop x.least y.least i; greatest = le_prop x.greatest y.greatest i }

-- sizes of as many bytes are one
pub same_size : (s t : SegSize) → s.bytes ≡ t.bytes → s ≡ t
same_size s t q = λ i. record { bytes = q i; is_size = is_prop→PathP (λ j. IsSegSize (q j)) (λ j. size-prop (q j)) s.is_size t.is_size i }

made : (n : ℕ) (t : Bool) (is : is_seg_size n ≡ t) (r : Option SegSize) → (IsSome r ↔ IsSegSize n) → IfSome r (λ s. bytes_of s ≡ n) → r ≡ size_when n t is
made n true is None valid value = absurd (let some = valid.1 (is_size n is) in cc)
made n true is (Some s) valid value = ap (λ v. Some v) (same_size s (record { bytes = n; is_size = is_size n is }) value)
made n false is None valid value = refl
made n false is (Some s) valid value = absurd (let yes : is_seg_size n ≡ true = tested n (valid.0 refl) in cc)

pub size_made : (n : ℕ) (r : Option SegSize) → (IsSome r ↔ IsSegSize n) → IfSome r (λ s. bytes_of s ≡ n) → r ≡ size_of_bytes n
unfolding size_of_bytes
size_made n r valid value = made n (is_seg_size n) refl r valid value
