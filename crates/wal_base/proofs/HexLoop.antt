-- The number that digits write, one digit after another.
use Rattle.std.proofs.Common.{◌≡◌, ℕ, ◌+◌, ◌*◌, ◌^◌, ◌<◌, ◌≤◌, List, get_or, length, take, drop, Bool, true, ap, sym, ◌∙◌, arith}
use Rattle.std.proofs.lemmas.Int.Digits.{digits_value_more}
use Rattle.std.proofs.lemmas.List.{length-take-le, take-append-drop}
use Rattle.std.proofs.lemmas.List.Folds.{list_all-append, list_all_more}
use Rattle.std.specs.Char.{is_ascii_hexdigit, digit_value}
use Rattle.std.specs.List.{list_all}
use Rattle.wal_base.specs.Hex.{hex_value}
use Rattle.wal_base.proofs.HexDigits.{and_parts, digits_from_hex, digit_value_hex, value_below}

pub all_of_take : (p : ℕ → Bool) (text : List ℕ) (i : ℕ) → list_all p text ≡ true → list_all p (take i text) ≡ true
all_of_take p text i h =
    (and_parts (list_all p (take i text)) (list_all p (drop i text))
    (sym (list_all-append p (take i text) (drop i text)) ∙ ap (list_all p) (take-append-drop i text) ∙ h)).0

pub all_of_drop : (p : ℕ → Bool) (text : List ℕ) (i : ℕ) → list_all p text ≡ true → list_all p (drop i text) ≡ true
all_of_drop p text i h =
    (and_parts (list_all p (take i text)) (list_all p (drop i text))
    (sym (list_all-append p (take i text) (drop i text)) ∙ ap (list_all p) (take-append-drop i text) ∙ h)).1

pub all_at : (p : ℕ → Bool) (text : List ℕ) (i : ℕ) → list_all p text ≡ true → i < length text → p (get_or text i 0) ≡ true
all_at p text i h l =
    (and_parts (list_all p (take i text)) (p (get_or text i 0)) (sym (list_all_more p text i 0 l) ∙ all_of_take p text (i + 1) h)).1

-- before the eighth digit there is room for one more, which is below 16
pub room : (text : List ℕ) (i : ℕ) → list_all is_ascii_hexdigit text ≡ true → length text ≤ 8 → i < length text
    → (hex_value (take i text) < 2 ^ 28) × (digit_value (get_or text i 0) < 16)
room text i h short l =
    let size = length-take-le i text (omega arith) in (
      value_below (take i text) 7 (digits_from_hex (take i text) (all_of_take is_ascii_hexdigit text i h)) (omega (arith, size)),
      digit_value_hex (get_or text i 0) (all_at is_ascii_hexdigit text i h l),
    )

pub more : (text : List ℕ) (i : ℕ) → i < length text → hex_value (take (i + 1) text) ≡ hex_value (take i text) * 16 + digit_value (get_or text i 0)
more text i l = digits_value_more 16 text i l
