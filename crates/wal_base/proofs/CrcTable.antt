-- The table: eight steps of each byte.
use Rattle.std.proofs.Common.{List, [], ◌+◌, ◌*◌, ◌≡◌, ℕ, ◌/◌, ◌%◌, ◌<◌, bit_xor, bit_and, get_or, map, refl, sym, ap, ◌∙◌, arith}
use Rattle.std.proofs.lemmas.List.FromFn.{get_or-map-range_with_len}
use Rattle.std.proofs.lemmas.Nat.{xor_shr, xor_mod, and_mask, mod_below}
use lib.Bits.{xor_zero_r}
use Rattle.std.specs.List.{range_with_len}
use Rattle.wal_base.specs.Crc.{crc_step, crc_steps, crc_byte}
use Rattle.wal_base.specs.declared.tables.TheConstants.{TABLES}
use Rattle.wal_base.proofs.CrcSteps.{steps_by_byte}

abbrev row : ℕ → List ℕ
row k = map (crc_steps (8 * (k + 1))) (range_with_len 0 256)

tables_are : TABLES ≡ map row (range_with_len 0 16)
unfolding crc_steps crc_step
tables_are = refl

pub passed_at : (k i : ℕ) → k < 16 → i < 256 → get_or (get_or TABLES k []) i 0 ≡ crc_steps (8 * (k + 1)) i
passed_at k i hk hi =
    ap (λ t. get_or (get_or t k []) i 0) tables_are
    ∙ ap (λ r. get_or r i 0) (get_or-map-range_with_len row 0 16 k k [] hk (omega arith))
    ∙ get_or-map-range_with_len (crc_steps (8 * (k + 1))) 0 256 i i 0 hi (omega arith)

table_at : (i : ℕ) → i < 256 → get_or (get_or TABLES 0 []) i 0 ≡ crc_steps 8 i
table_at i h = passed_at 0 i (omega arith) h

-- one more byte, as the table gives it
pub table_byte : (c b : ℕ) → b < 256 → bit_xor (get_or (get_or TABLES 0 []) (bit_xor (bit_and c 255) b) 0) (c / 256) ≡ crc_byte c b
unfolding crc_byte
table_byte c b h =
    let same : b % 256 ≡ b = omega arith in
    let none : b / 256 ≡ 0 = omega arith in
    let low : bit_xor (bit_and c 255) b ≡ bit_xor c b % 256 =
    ap (λ x. bit_xor x b) (and_mask c 8) ∙ sym (xor_mod c b 8 ∙ ap (bit_xor (c % 256)) same) in
    let high : c / 256 ≡ bit_xor c b / 256 = sym (xor_shr c b 8 ∙ ap (bit_xor (c / 256)) none ∙ xor_zero_r (c / 256)) in
    let small : bit_xor c b % 256 < 256 = mod_below (bit_xor c b) 256 (omega arith) in
    ap (λ i. bit_xor (get_or (get_or TABLES 0 []) i 0) (c / 256)) low
    ∙ ap (λ x. bit_xor x (c / 256)) (table_at (bit_xor c b % 256) small)
    ∙ ap (bit_xor (crc_steps 8 (bit_xor c b % 256))) high
    ∙ sym (steps_by_byte (bit_xor c b))
    ∙ ap (λ x. crc_steps 8 (bit_xor c x)) (sym same)
