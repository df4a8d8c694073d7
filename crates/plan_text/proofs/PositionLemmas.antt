-- Positions that are read: they have 64 bits, and are written so.
use Rattle.std.proofs.Common.{◌≡◌, ℕ, ◌<◌, ◌≤◌, ◌^◌, ◌&&◌, true, List, length, nat_le, nat_lt, Some, sym, ap, ◌∙◌, arith, bytes_eq}
use Rattle.std.proofs.lemmas.Bool.{and_parts}
use Rattle.std.proofs.lemmas.Bool.Decides.{nat_tests}
use Rattle.std.proofs.lemmas.Option.{option_and_then_some}
use Rattle.std.proofs.lemmas.Slice.Eq.{bytes_eq-Decides}
use Rattle.std.specs.Char.{is_ascii_hexdigit}
use Rattle.std.specs.List.{list_all}
use Rattle.wal_base.specs.Hex.{hex_value, is_hex_word}
use Rattle.wal_base.specs.Lsn.{lsn_of, lsn_text}
use Rattle.wal_base.specs.declared.lsn.Lsn.{Lsn}
use Rattle.wal_base.proofs.HexDigits.{digits_from_hex, value_below}
use Rattle.wal_base.proofs.LsnLemmas.{named_by_reading}
use Rattle.mark_lines.proofs.OptionLemmas.{if_some}
use Rattle.plan_text.specs.Words.{lsn_in, shown_so}

half_below : (text : List ℕ) → is_hex_word text ≡ true → hex_value text < 2 ^ 32
half_below text h =
    let e = and_parts (nat_lt 0 (length text) && nat_le (length text) 8) (list_all is_ascii_hexdigit text) h in
    let short : length text ≤ 8 = let f = and_parts (nat_lt 0 (length text)) (nat_le (length text) 8) e.0 in grind (arith, nat_tests, f.1) in
    let low = value_below text 8 (digits_from_hex text e.1) short in omega (arith, low)

lsn_below : (word : List ℕ) (at : Lsn) → lsn_of word ≡ Some at → at.0 < 2 ^ 64
lsn_below word at e =
    let n = named_by_reading word at e in
    let value = ap (λ (l : Lsn). l.0) n.value in
    omega (arith, value, half_below n.high n.high_word, half_below n.low n.low_word)

pub lsn_known : (word : List ℕ) (at : Lsn) → lsn_in word ≡ Some at → (at.0 < 2 ^ 64) × (lsn_text at.0 ≡ word)
lsn_known word at e =
    option_and_then_some (shown_so word) (lsn_of word) at e (λ l el f.
    let g = if_some (bytes_eq (lsn_text l.0) word) (Some l) at f in
    let same : l ≡ at = let s = g.1 in cc in
    (lsn_below word at (el ∙ ap Some same), ap (λ (m : Lsn). lsn_text m.0) (sym same) ∙ (bytes_eq-Decides (lsn_text l.0) word).0 g.0))
