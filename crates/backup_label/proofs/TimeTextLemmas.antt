-- The texts of times, as a format with holes writes them.
use Rattle.std.proofs.Common.{◌≡◌, pos, neg_ℤ, ◌<ℤ◌, ◌≤ℤ◌, ℕ, ◌-◌, ◌/◌, ◌%◌, ◌^◌, false, ℤ, [], ◌∷◌, ◌++◌, append_assoc, codes, refl, arith}
use Rattle.std.specs.Fmt.{format_spec, styled_decimal, number_padding, padded_integral, char_count, signed_decimal}
use Rattle.std.proofs.lemmas.List.{append-nil}
use Rattle.jiff.proofs.SpanFacts.{signed_arith}
use Rattle.control_file.proofs.TimeLemmas.{int_le-true, int_le-false}
use Rattle.control_file.proofs.TimeTextLemmas.{clock_text-parts}
use Rattle.control_file.specs.Time.{two_places, year_of, month_of, month_day_of, day_of, second_of}
use Rattle.backup_label.specs.Time.{four_places, date_text, moment_text, label_time}

zeros_left : (n : ℕ) → number_padding (format_spec 32 0 4 2 (2 ^ 64 - 1)) false [] n ≡ 2 - n
unfolding char_count
zeros_left n = omega arith

two_zeros : (n : ℕ) → styled_decimal (format_spec 32 0 4 2 (2 ^ 64 - 1)) n ≡ two_places 48 n
unfolding two_places padded_integral
two_zeros n = simp (append-nil, zeros_left) refl

places_left : (n : ℕ) → number_padding (format_spec 32 0 4 4 (2 ^ 64 - 1)) false [] n ≡ 4 - n
unfolding char_count
places_left n = omega arith

four_zeros : (n : ℕ) → styled_decimal (format_spec 32 0 4 4 (2 ^ 64 - 1)) n ≡ four_places n
unfolding four_places padded_integral
four_zeros n = simp (append-nil, places_left) refl

-- as a format writes it
pub moment_text-parts : (day : ℤ) (second : ℕ) → moment_text day second
    ≡ styled_decimal (format_spec 32 0 4 4 (2 ^ 64 - 1)) (year_of day) ++ (45 ∷ (styled_decimal (format_spec 32 0 4 2 (2 ^ 64 - 1)) (month_of day) ++ (45 ∷ (styled_decimal (format_spec 32 0 4 2 (2 ^ 64 - 1)) (month_day_of day)
    ++ (32 ∷ (styled_decimal (format_spec 32 0 4 2 (2 ^ 64 - 1)) (second / 3600) ++ (58 ∷ (styled_decimal (format_spec 32 0 4 2 (2 ^ 64 - 1)) (second % 3600 / 60) ++ (58 ∷ (styled_decimal (format_spec 32 0 4 2 (2 ^ 64 - 1)) (second % 60) ++ codes " UTC"))))))))))
unfolding moment_text date_text
moment_text-parts day second = simp (clock_text-parts, two_zeros, four_zeros, append_assoc)

pub label_time-early : (seconds : ℤ) → seconds <ℤ neg_ℤ (pos 62_135_596_800) → label_time seconds ≡ signed_decimal seconds
unfolding label_time
label_time-early seconds early = rw (int_le-false (neg_ℤ (pos 62_135_596_800)) seconds early) refl

pub label_time-late : (seconds : ℤ) → pos 253_402_300_799 <ℤ seconds → label_time seconds ≡ signed_decimal seconds
unfolding label_time
label_time-late seconds late =
    let low : neg_ℤ (pos 62_135_596_800) ≤ℤ seconds = omega (arith, signed_arith) in
    rw (int_le-true (neg_ℤ (pos 62_135_596_800)) seconds low, int_le-false seconds (pos 253_402_300_799) late) refl

pub label_time-within : (seconds : ℤ) → neg_ℤ (pos 62_135_596_800) ≤ℤ seconds → seconds ≤ℤ pos 253_402_300_799 → label_time seconds ≡ moment_text (day_of seconds) (second_of seconds)
unfolding label_time
label_time-within seconds low high = rw (int_le-true (neg_ℤ (pos 62_135_596_800)) seconds low, int_le-true seconds (pos 253_402_300_799) high) refl
