-- Positions in the log as text: PostgreSQL 16, src/include/access/xlogdefs.h, XLogRecPtr and LSN_FORMAT_ARGS; pg_lsn_in.
use Rattle.std.specs.Prelude.{◌≡◌, ◌==◌, ℕ, ◌+◌, ◌*◌, ◌/◌, ◌%◌, ◌^◌, IsTrue, List, ◌∷◌, ◌++◌, Option, option_map, option_and_then}
use Rattle.std.specs.List.{before_first, after_first}
use Rattle.wal_base.specs.declared.lsn.Lsn.{Lsn}
use Rattle.wal_base.specs.Hex.{hex_text, hex8, hex_value, hex_word, is_hex_word}

-- the byte between the two halves
abbrev pub slash : ℕ
slash = 47

-- the position with these halves
abbrev pub lsn_with : ℕ → ℕ → Lsn
lsn_with high low = record { 0 = high * 2 ^ 32 + low }

-- %X/%X of the high and the low half
abbrev pub lsn_text : ℕ → List ℕ
lsn_text at = hex_text (at / 2 ^ 32) ++ slash ∷ hex_text (at % 2 ^ 32)

-- %X/%08X of the high and the low half
abbrev pub lsn_padded : ℕ → List ℕ
lsn_padded at = hex_text (at / 2 ^ 32) ++ slash ∷ hex8 (at % 2 ^ 32)

-- the position that a text names: what stands before its first slash, and what stands after it
unfoldable pub lsn_of : List ℕ → Option Lsn
lsn_of text =
    option_and_then (λ high. option_map (λ low. lsn_with high low) (hex_word (after_first (λ byte. byte == slash) text)))
    (hex_word (before_first (λ byte. byte == slash) text))

-- the text names the position: one to eight digits of either case, a slash, one to eight such digits
pub record NamesLsn (text : List ℕ) (at : Lsn) : Type 0 where
  pub high : List ℕ
  pub low : List ℕ
  pub whole : text ≡ high ++ slash ∷ low
  pub high_word : IsTrue (is_hex_word high)
  pub low_word : IsTrue (is_hex_word low)
  pub value : at ≡ lsn_with (hex_value high) (hex_value low)
