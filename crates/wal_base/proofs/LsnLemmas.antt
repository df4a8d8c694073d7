-- Texts of positions.
use Rattle.std.proofs.Common.{◌≡◌, ◌==◌, ℕ, suc, ◌+◌, ◌*◌, ◌/◌, ◌%◌, ◌^◌, ◌<◌, Bool, true, false, not, cond, List, [], ◌∷◌, ◌++◌, Option, Some, None, get_or, length, take, drop, refl, sym, ap, ◌∙◌, arith, eqb-true, length-drop, option_map, option_and_then}
use Rattle.std.proofs.lemmas.Bool.Decides.{nat_tests}
use Rattle.std.proofs.lemmas.List.Sums.{split_at_first}
use Rattle.std.proofs.lemmas.List.{drop_all}
use Rattle.std.proofs.Math.Seq.{take-append_seam, drop-append-add}
use Rattle.std.specs.Char.{is_ascii_hexdigit}
use Rattle.std.specs.List.{list_all, position_or_len, before_first, after_first}
use Rattle.wal_base.specs.declared.lsn.Lsn.{Lsn}
use Rattle.wal_base.specs.Hex.{hex_text, hex8, hex_value, hex_word, is_hex_word}
use Rattle.wal_base.specs.Lsn.{slash, lsn_with, lsn_text, lsn_padded, lsn_of, NamesLsn}
use Rattle.wal_base.proofs.HexDigits.{and_parts}
use Rattle.wal_base.proofs.HexText.{is_hex_word-hex_text, hex_word-hex_text, hex_word-hex8}

abbrev is_slash : ℕ → Bool
is_slash byte = byte == slash

hex_is_no_slash : (c : ℕ) → is_ascii_hexdigit c ≡ true → is_slash c ≡ false
hex_is_no_slash c h = grind (arith, nat_tests)

slash_after_hex : (a b : List ℕ) → list_all is_ascii_hexdigit a ≡ true → position_or_len is_slash (a ++ slash ∷ b) ≡ length a
slash_after_hex [] b h = refl
slash_after_hex (c ∷ a) b h =
    let e = and_parts (is_ascii_hexdigit c) (list_all is_ascii_hexdigit a) h in
    rw (hex_is_no_slash c e.0) (ap (λ k. 1 + k) (slash_after_hex a b e.1) ∙ omega arith)

before_slash : (a b : List ℕ) → list_all is_ascii_hexdigit a ≡ true → before_first is_slash (a ++ slash ∷ b) ≡ a
before_slash a b h = ap (λ k. take k (a ++ slash ∷ b)) (slash_after_hex a b h) ∙ take-append_seam a (slash ∷ b)

after_slash : (a b : List ℕ) → list_all is_ascii_hexdigit a ≡ true → after_first is_slash (a ++ slash ∷ b) ≡ b
after_slash a b h = ap (λ k. drop (k + 1) (a ++ slash ∷ b)) (slash_after_hex a b h) ∙ drop-append-add a (slash ∷ b) 1

word_parts : (text : List ℕ) → is_hex_word text ≡ true → list_all is_ascii_hexdigit text ≡ true
word_parts text h = grind (arith, nat_tests)

-- two words round a slash name the position with these halves
pub lsn_of_words : (a b : List ℕ) (high low : ℕ) → is_hex_word a ≡ true → hex_word a ≡ Some high → hex_word b ≡ Some low → lsn_of (a ++ slash ∷ b) ≡ Some (lsn_with high low)
unfolding lsn_of
lsn_of_words a b high low h p q = rw (before_slash a b (word_parts a h), after_slash a b (word_parts a h), p, q) refl

same_lsn : (at : ℕ) → Some (lsn_with (at / 2 ^ 32) (at % 2 ^ 32)) ≡ Some (record { 0 = at })
same_lsn at =
    let whole : at / 2 ^ 32 * 2 ^ 32 + at % 2 ^ 32 ≡ at = omega arith in
    ap (λ n. let lsn : Lsn = record { 0 = n } in Some lsn) whole

pub lsn_of-lsn_text : (at : ℕ) → at < 2 ^ 64 → lsn_of (lsn_text at) ≡ Some (record { 0 = at })
lsn_of-lsn_text at h =
    let high : at / 2 ^ 32 < 2 ^ 32 = omega arith in
    let low : at % 2 ^ 32 < 2 ^ 32 = omega arith in
    lsn_of_words (hex_text (at / 2 ^ 32)) (hex_text (at % 2 ^ 32)) (at / 2 ^ 32) (at % 2 ^ 32)
    (is_hex_word-hex_text (at / 2 ^ 32) high) (hex_word-hex_text (at / 2 ^ 32) high) (hex_word-hex_text (at % 2 ^ 32) low)
    ∙ same_lsn at

pub lsn_of-lsn_padded : (at : ℕ) → at < 2 ^ 64 → lsn_of (lsn_padded at) ≡ Some (record { 0 = at })
lsn_of-lsn_padded at h =
    let high : at / 2 ^ 32 < 2 ^ 32 = omega arith in
    let low : at % 2 ^ 32 < 2 ^ 32 = omega arith in
    lsn_of_words (hex_text (at / 2 ^ 32)) (hex8 (at % 2 ^ 32)) (at / 2 ^ 32) (at % 2 ^ 32)
    (is_hex_word-hex_text (at / 2 ^ 32) high) (hex_word-hex_text (at / 2 ^ 32) high) (hex_word-hex8 (at % 2 ^ 32) low)
    ∙ same_lsn at

-- the other way round

next : (k : ℕ) → 1 + k ≡ suc k
next k = omega arith

slash_there : (text : List ℕ) → position_or_len is_slash text < length text → get_or text (position_or_len is_slash text) 0 ≡ slash
slash_there [] h = absurd (omega arith)
slash_there (c ∷ cs) h = by (is_slash c) refl h (slash_there cs)
  where
    by : (b : Bool) → is_slash c ≡ b → cond (not b) (1 + position_or_len is_slash cs) 0 < length (c ∷ cs)
        → (position_or_len is_slash cs < length cs → get_or cs (position_or_len is_slash cs) 0 ≡ slash)
        → get_or (c ∷ cs) (cond (not b) (1 + position_or_len is_slash cs) 0) 0 ≡ slash
    by true e l more = eqb-true c slash e
    by false e l more = ap (λ k. get_or (c ∷ cs) k 0) (next (position_or_len is_slash cs)) ∙ more (omega arith)

some_word : (text : List ℕ) (value : ℕ) → hex_word text ≡ Some value → (is_hex_word text ≡ true) × (value ≡ hex_value text)
some_word text value = by (is_hex_word text) refl
  where
    by : (b : Bool) → is_hex_word text ≡ b → cond b (Some (hex_value text)) None ≡ Some value → (is_hex_word text ≡ true) × (value ≡ hex_value text)
    by true e h = (e, cc)
    by false e h = absurd cc

both_words : (o p : Option ℕ) (at : Lsn) → option_and_then (λ high. option_map (λ low. lsn_with high low) p) o ≡ Some at
    → (high : ℕ) × (low : ℕ) × (o ≡ Some high) × (p ≡ Some low) × (at ≡ lsn_with high low)
both_words None p at h = absurd cc
both_words (Some high) None at h = absurd cc
both_words (Some high) (Some low) at h = (high, low, refl, refl, cc)

slash_in_time : (text : List ℕ) → is_hex_word (after_first is_slash text) ≡ true → position_or_len is_slash text < length text
slash_in_time text h =
    let some : 0 < length (after_first is_slash text) = grind (arith, nat_tests) in
    omega (arith, length-drop (position_or_len is_slash text + 1) text)

-- a text that is read as a position names it
pub named_by_reading : (text : List ℕ) (at : Lsn) → lsn_of text ≡ Some at → NamesLsn text at
unfolding lsn_of
named_by_reading text at h =
    let words = both_words (hex_word (before_first is_slash text)) (hex_word (after_first is_slash text)) at h in
    let high = some_word (before_first is_slash text) words.0 words.2 in
    let low = some_word (after_first is_slash text) words.1 words.3 in
    let short = slash_in_time text low.0 in
    let whole : text ≡ before_first is_slash text ++ slash ∷ after_first is_slash text =
    split_at_first is_slash text 0 short
    ∙ ap (λ c. before_first is_slash text ++ c ∷ after_first is_slash text) (slash_there text short) in
    record {
      high = before_first is_slash text;
      low = after_first is_slash text;
      whole = whole;
      high_word = high.0;
      low_word = low.0;
      value = words.4 ∙ ap (λ v. lsn_with v words.1) high.1 ∙ ap (lsn_with (hex_value (before_first is_slash text))) low.1;
    }

pub read_by_naming : (text : List ℕ) (at : Lsn) → NamesLsn text at → lsn_of text ≡ Some at
read_by_naming text at n =
    ap lsn_of n.whole
    ∙ lsn_of_words n.high n.low (hex_value n.high) (hex_value n.low) n.high_word (rw n.high_word refl) (rw n.low_word refl)
    ∙ ap Some (sym n.value)

-- what a reader finds

some_no_low : (o : Option ℕ) → option_and_then (λ high. option_map (λ low. lsn_with high low) None) o ≡ None
some_no_low None = refl
some_no_low (Some high) = refl

pub no_low : (text : List ℕ) → hex_word (after_first is_slash text) ≡ None → lsn_of text ≡ None
unfolding lsn_of
no_low text h = rw h (some_no_low (hex_word (before_first is_slash text)))

pub no_high : (text : List ℕ) → hex_word (before_first is_slash text) ≡ None → lsn_of text ≡ None
unfolding lsn_of
no_high text h = rw h refl

pub no_slash : (text : List ℕ) → position_or_len is_slash text ≡ length text → lsn_of text ≡ None
no_slash text h =
    let none : after_first is_slash text ≡ [] = drop_all (position_or_len is_slash text + 1) text (omega (arith, h)) in
    no_low text (rw none refl)

pub both_halves : (text : List ℕ) (high low : ℕ) → hex_word (before_first is_slash text) ≡ Some high → hex_word (after_first is_slash text) ≡ Some low
    → lsn_of text ≡ Some (lsn_with high low)
unfolding lsn_of
both_halves text high low e f = rw (e, f) refl

pub shifted : (high low : ℕ) → high < 2 ^ 32 → Some (lsn_with high low) ≡ Some (record { 0 = high * 2 ^ 32 % 2 ^ 64 + low })
shifted high low h =
    let same : high * 2 ^ 32 + low ≡ high * 2 ^ 32 % 2 ^ 64 + low = omega arith in
    ap (λ n. let lsn : Lsn = record { 0 = n } in Some lsn) same
