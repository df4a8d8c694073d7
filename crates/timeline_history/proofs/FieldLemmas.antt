-- The fields of a history line.
use Rattle.std.proofs.Common.{◌≡◌, ℕ, ◌-◌, ◌<◌, ◌≤◌, Bool, true, false, cond, ltb, List, [], ◌∷◌, ◌++◌, Option, Some, None, length, take, drop, refl, sym, ap, ◌∙◌, arith, lit<}
use Rattle.std.proofs.lemmas.Bool.{ltb-false}
use Rattle.std.proofs.lemmas.Bool.Decides.{nat_tests}
use Rattle.std.proofs.lemmas.List.{take_rest, drop_all}
use Rattle.std.proofs.lemmas.Str.{IsUtf8-from_ascii, IsAscii-append}
use Rattle.std.proofs.lemmas.Str.Ascii.{IsAscii-nil, IsAscii-cons}
use Rattle.std.specs.Char.{is_ascii_hexdigit}
use Rattle.std.specs.List.{list_all, position, position_or_len}
use Rattle.std.specs.Str.{IsAscii, IsUtf8}
use Rattle.wal_base.proofs.HexDigits.{and_parts}
use Rattle.wal_base.proofs.LsnLemmas.{named_by_reading}
use Rattle.wal_base.specs.declared.lsn.Lsn.{Lsn}
use Rattle.wal_base.specs.Hex.{is_hex_word}
use Rattle.wal_base.specs.Lsn.{slash, lsn_of}

ascii_hexdigit : (c : ℕ) → is_ascii_hexdigit c ≡ true → c < 128
ascii_hexdigit c h = grind (arith, nat_tests)

all_ascii : (p : ℕ → Bool) → ((c : ℕ) → p c ≡ true → c < 128) → (bytes : List ℕ) → list_all p bytes ≡ true → IsAscii bytes
all_ascii p below [] h = IsAscii-nil
all_ascii p below (c ∷ cs) h =
    let e = and_parts (p c) (list_all p cs) h in
    IsAscii-cons c cs (below c e.0) (all_ascii p below cs e.1)

-- ---- blanks

module _ (test : ℕ → Bool) (bytes : List ℕ) where
  starts_at : (at : ℕ) → Some at ≡ position test bytes → at ≡ position_or_len test bytes
  starts_at at h = by (ltb (position_or_len test bytes) (length bytes)) h
    where
      by : (b : Bool) → Some at ≡ cond b (Some (position_or_len test bytes)) None → at ≡ position_or_len test bytes
      by true e = cc
      by false e = absurd cc

  starts_nowhere : None ≡ position test bytes → length bytes ≤ position_or_len test bytes
  starts_nowhere h = by (ltb (position_or_len test bytes) (length bytes)) refl h
    where
      by : (b : Bool) → ltb (position_or_len test bytes) (length bytes) ≡ b → None ≡ cond b (Some (position_or_len test bytes)) None → length bytes ≤ position_or_len test bytes
      by true is e = absurd cc
      by false is e = ltb-false _ _ is

  pub from_start : (at : ℕ) → Some at ≡ position test bytes → take (length bytes - at) (drop at bytes) ≡ drop (position_or_len test bytes) bytes
  from_start at h = take_rest bytes at ∙ ap (λ k. drop k bytes) (starts_at at h)

  pub no_start : None ≡ position test bytes → take (length bytes - length bytes) (drop (length bytes) bytes) ≡ drop (position_or_len test bytes) bytes
  no_start h =
      take_rest bytes (length bytes)
      ∙ drop_all (length bytes) bytes (omega arith)
      ∙ sym (drop_all (position_or_len test bytes) bytes (starts_nowhere h))

-- ---- positions

hex_word_ascii : (text : List ℕ) → is_hex_word text ≡ true → IsAscii text
hex_word_ascii text h =
    let digits : list_all is_ascii_hexdigit text ≡ true = grind (arith, nat_tests) in
    all_ascii is_ascii_hexdigit ascii_hexdigit text digits

position_is_text : (text : List ℕ) (at : Lsn) → lsn_of text ≡ Some at → IsUtf8 text
position_is_text text at h =
    let n = named_by_reading text at h in
    let ascii : IsAscii (n.high ++ slash ∷ n.low) =
    IsAscii-append n.high (slash ∷ n.low) (hex_word_ascii n.high n.high_word) (IsAscii-cons slash n.low (lit< tt) (hex_word_ascii n.low n.low_word)) in
    rw n.whole (IsUtf8-from_ascii (n.high ++ slash ∷ n.low) ascii)

pub no_position : (text : List ℕ) → (IsUtf8 text → ⊥) → None ≡ lsn_of text
no_position text h = by (lsn_of text) refl
  where
    by : (o : Option Lsn) → lsn_of text ≡ o → None ≡ lsn_of text
    by None e = sym e
    by (Some at) e = absurd (h (position_is_text text at e))
