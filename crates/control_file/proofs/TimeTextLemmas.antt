-- The texts of times, as a format with holes writes them.
use Rattle.std.proofs.Common.{◌≡◌, pos, neg_ℤ, ◌<ℤ◌, ◌≤ℤ◌, ℕ, zero, suc, ◌-◌, ◌/◌, ◌%◌, ◌^◌, false, ℤ, List, [], ◌∷◌, ◌++◌, replicate, append_assoc, get_or, ap, refl, arith}
use Rattle.std.specs.Fmt.{format_spec, styled_decimal, number_padding, padded_integral, char_count}
use lib.Utf8.{encode}
use Rattle.std.specs.List.{repeat}
use Rattle.std.specs.Fmt.{signed_decimal}
use Rattle.jiff.proofs.SpanFacts.{signed_arith}
use Rattle.control_file.proofs.TimeLemmas.{int_le-true, int_le-false}
use Rattle.std.proofs.lemmas.List.{append-nil}
use Rattle.jiff_core.specs.Calendar.{weekday_number}
use Rattle.control_file.specs.Names.{weekday_names, month_names}
use Rattle.control_file.specs.Time.{two_places, month_of, month_day_of, clock_text, day_text, civil_text, time_text, day_of, second_of}

-- how many places are left of two
zeros_left : (n : ℕ) → number_padding (format_spec 32 0 4 2 (2 ^ 64 - 1)) false [] n ≡ 2 - n
unfolding char_count
zeros_left n = omega arith

spaces_left : (n : ℕ) → number_padding (format_spec 32 3 0 2 (2 ^ 64 - 1)) false [] n ≡ 2 - n
unfolding char_count
spaces_left n = omega arith

repeat-space : (n : ℕ) → repeat {A = ℕ} n (32 ∷ []) ≡ replicate n 32
repeat-space zero = refl
repeat-space (suc n) = ap (λ (spaces : List ℕ). 32 ∷ spaces) (repeat-space n)

two_zeros : (n : ℕ) → styled_decimal (format_spec 32 0 4 2 (2 ^ 64 - 1)) n ≡ two_places 48 n
unfolding two_places padded_integral
two_zeros n = simp (append-nil, zeros_left) refl

none_left : (n : ℕ) → n - n ≡ 0
none_left n = omega arith

two_spaces : (n : ℕ) → styled_decimal (format_spec 32 3 0 2 (2 ^ 64 - 1)) n ≡ two_places 32 n
unfolding two_places padded_integral encode
two_spaces n = simp (none_left, spaces_left, repeat-space, append-nil) refl

pub clock_text-parts : (second : ℕ) → clock_text second ≡ styled_decimal (format_spec 32 0 4 2 (2 ^ 64 - 1)) (second / 3600) ++ (58 ∷ (styled_decimal (format_spec 32 0 4 2 (2 ^ 64 - 1)) (second % 3600 / 60) ++ (58 ∷ styled_decimal (format_spec 32 0 4 2 (2 ^ 64 - 1)) (second % 60))))
unfolding clock_text
clock_text-parts second = simp (two_zeros, append_assoc)

pub day_text-parts : (day : ℤ) → day_text day ≡ get_or weekday_names (weekday_number day) [] ++ (32 ∷ (get_or month_names (month_of day - 1) [] ++ (32 ∷ styled_decimal (format_spec 32 3 0 2 (2 ^ 64 - 1)) (month_day_of day))))
unfolding day_text
day_text-parts day = simp (two_spaces, append_assoc)

pub time_text-early : (seconds : ℤ) → seconds <ℤ neg_ℤ (pos 62_135_596_800) → time_text seconds ≡ signed_decimal seconds
unfolding time_text
time_text-early seconds early = rw (int_le-false (neg_ℤ (pos 62_135_596_800)) seconds early) refl

pub time_text-late : (seconds : ℤ) → pos 253_402_300_799 <ℤ seconds → time_text seconds ≡ signed_decimal seconds
unfolding time_text
time_text-late seconds late =
    let low : neg_ℤ (pos 62_135_596_800) ≤ℤ seconds = omega (arith, signed_arith) in
    rw (int_le-true (neg_ℤ (pos 62_135_596_800)) seconds low, int_le-false seconds (pos 253_402_300_799) late) refl

pub time_text-within : (seconds : ℤ) → neg_ℤ (pos 62_135_596_800) ≤ℤ seconds → seconds ≤ℤ pos 253_402_300_799 → time_text seconds ≡ civil_text (day_of seconds) (second_of seconds)
unfolding time_text
time_text-within seconds low high = rw (int_le-true (neg_ℤ (pos 62_135_596_800)) seconds low, int_le-true seconds (pos 253_402_300_799) high) refl
