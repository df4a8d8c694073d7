-- The second line of a plan: positions and timelines as words, which are plain and read again.
use Rattle.std.proofs.Common.{◌≡◌, ℕ, ◌<◌, ◌/◌, ◌%◌, ◌^◌, true, ◌∷◌, decimal, Option, None, Some, option_and_then, option_map, refl, ap, ◌∙◌, arith, if◌then◌else◌}
use Rattle.std.proofs.lemmas.Fmt.{digits_is_IsNumeral}
use Rattle.std.proofs.lemmas.List.Folds.{list_all-append}
use Rattle.std.proofs.lemmas.Slice.Eq.{bytes_eq-Decides}
use Rattle.std.specs.List.{list_all}
use Rattle.wal_base.specs.Hex.{hex_text}
use Rattle.wal_base.specs.Lsn.{lsn_text}
use Rattle.wal_base.specs.declared.lsn.Lsn.{Lsn}
use Rattle.wal_base.proofs.HexDigits.{and_both, hex_from_digits}
use Rattle.wal_base.proofs.LsnLemmas.{lsn_of-lsn_text}
use Rattle.rewind_survey.specs.declared.outcome.Told.{Told}
use Rattle.mark_lines.proofs.DigitLemmas.{decimal_back, hex_plain, plain_decimal}
use Rattle.mark_lines.proofs.LineLemmas.{are_plain, is_plain}
use Rattle.plan_text.specs.Words.{lsn_in, shown_so}
use Rattle.plan_text.specs.Reading.{told_of, told_with}
use Rattle.plan_text.specs.Text.{told_words}
use Rattle.plan_text.specs.Laws.{IsTold}

-- positions
plain_half : (n : ℕ) → n < 2 ^ 64 → list_all is_plain (hex_text n) ≡ true
plain_half n h = hex_plain (hex_text n) (hex_from_digits (hex_text n) (digits_is_IsNumeral 16 true (omega arith) (omega arith) n (omega (arith, h))).0.1)

plain_lsn : (at : ℕ) → at < 2 ^ 64 → list_all is_plain (lsn_text at) ≡ true
plain_lsn at h =
    list_all-append is_plain (hex_text (at / 2 ^ 32)) (47 ∷ hex_text (at % 2 ^ 32))
    ∙ and_both (list_all is_plain (hex_text (at / 2 ^ 32))) (list_all is_plain (hex_text (at % 2 ^ 32)))
    (plain_half (at / 2 ^ 32) (omega (arith, h))) (plain_half (at % 2 ^ 32) (omega (arith, h)))

lsn_back : (at : Lsn) → at.0 < 2 ^ 64 → lsn_in (lsn_text at.0) ≡ Some at
lsn_back at h =
    ap (option_and_then (shown_so (lsn_text at.0))) (lsn_of-lsn_text at.0 h)
    ∙ ap (λ b. if b then Some at else None) ((bytes_eq-Decides (lsn_text at.0) (lsn_text at.0)).1 refl)

-- the words of the second line
abbrev told_from : Option ℕ → Option Lsn → Option Lsn → Option ℕ → Option Told
told_from tli at checkpoint theirs = option_and_then (λ t. option_and_then (λ a. option_and_then (λ c. option_map (told_with t a c) theirs) checkpoint) at) tli

pub told_back : (told : Told) → IsTold told → told_of (told_words told) ≡ Some told
told_back told is = λ i. told_from
    (decimal_back (2 ^ 32) told.fork.tli (omega arith) is.tli i) (lsn_back told.fork.at is.at i) (lsn_back told.checkpoint is.checkpoint i)
    (decimal_back (2 ^ 32) told.tli (omega arith) is.theirs i)

pub told_plain : (told : Told) → IsTold told → are_plain (told_words told) ≡ true
told_plain told is =
    and_both (list_all is_plain (decimal told.fork.tli)) _ (plain_decimal told.fork.tli (omega (arith, is.tli)))
    (and_both (list_all is_plain (lsn_text told.fork.at.0)) _ (plain_lsn told.fork.at.0 is.at)
    (and_both (list_all is_plain (lsn_text told.checkpoint.0)) _ (plain_lsn told.checkpoint.0 is.checkpoint)
    (and_both (list_all is_plain (decimal told.tli)) true (plain_decimal told.tli (omega (arith, is.theirs))) refl)))
