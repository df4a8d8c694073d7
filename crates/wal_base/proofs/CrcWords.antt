-- Four bytes and sixteen bytes at a time.
use Rattle.std.proofs.Common.{◌≡◌, ℕ, zero, suc, ◌+◌, ◌*◌, ◌/◌, ◌%◌, ◌^◌, ◌<◌, List, bit_xor, bit_and, get_or, drop, length, sym, ap, ◌∙◌, arith}
use Rattle.std.proofs.lemmas.Nat.{xor_shr, xor_mod, xor_comm, and_mask}
use Rattle.std.proofs.lemmas.List.{length-drop}
use lib.Bits.{xor_assoc, xor_zero_l, xor_zero_r}
use Rattle.wal_base.specs.Crc.{crc_steps, crc_byte, crc_fold}
use Rattle.wal_base.proofs.CrcSteps.{steps_by_byte}
use Rattle.wal_base.proofs.CrcLinear.{steps_add, fold_xor}
use Rattle.wal_base.proofs.CrcFold.{fold_step, fold_end}

byte_low : (c b : ℕ) → b < 256 → crc_byte c b ≡ bit_xor (crc_steps 8 (bit_xor (c % 256) b)) (c / 256)
unfolding crc_byte
byte_low c b h =
    let same : b % 256 ≡ b = omega arith in
    let none : b / 256 ≡ 0 = omega arith in
    let low : bit_xor c b % 256 ≡ bit_xor (c % 256) b = xor_mod c b 8 ∙ ap (bit_xor (c % 256)) same in
    let high : bit_xor c b / 256 ≡ c / 256 = xor_shr c b 8 ∙ ap (bit_xor (c / 256)) none ∙ xor_zero_r (c / 256) in
    ap (λ x. crc_steps 8 (bit_xor c x)) same
    ∙ steps_by_byte (bit_xor c b)
    ∙ ap (λ x. bit_xor (crc_steps 8 x) (bit_xor c b / 256)) low
    ∙ ap (bit_xor (crc_steps 8 (bit_xor (c % 256) b))) high

-- the byte at i takes the low byte of the state with it, and `after` bytes come after it
split_off : (c : ℕ) (bytes : List ℕ) (i after : ℕ) → i + 1 + after ≡ length bytes → get_or bytes i 0 < 256
    → crc_fold c (drop i bytes)
    ≡ bit_xor (crc_steps (8 * (after + 1)) (bit_xor (bit_and c 255) (get_or bytes i 0))) (crc_fold (c / 256) (drop (i + 1) bytes))
split_off c bytes i after e h =
    let b : ℕ = get_or bytes i 0 in
    let x : ℕ = bit_xor (c % 256) b in
    let rest : List ℕ = drop (i + 1) bytes in
    let left : length rest ≡ after = length-drop (i + 1) bytes ∙ omega (arith, e) in
    let count : 8 + 8 * length rest ≡ 8 * (after + 1) = rw left (omega arith) in
    fold_step c bytes i (omega (arith, e))
    ∙ ap (λ s. crc_fold s rest) (byte_low c b h)
    ∙ fold_xor (crc_steps 8 x) (c / 256) rest
    ∙ ap (λ s. bit_xor s (crc_fold (c / 256) rest))
    (steps_add 8 (8 * length rest) x ∙ ap (λ n. crc_steps n x) count
    ∙ ap (λ m. crc_steps (8 * (after + 1)) (bit_xor m b)) (sym (and_mask c 8)))

-- and where the state is 0, the byte goes alone
split_fresh : (bytes : List ℕ) (i after : ℕ) → i + 1 + after ≡ length bytes → get_or bytes i 0 < 256
    → crc_fold 0 (drop i bytes) ≡ bit_xor (crc_steps (8 * (after + 1)) (get_or bytes i 0)) (crc_fold 0 (drop (i + 1) bytes))
split_fresh bytes i after e h =
    split_off 0 bytes i after e h
    ∙ ap (λ x. bit_xor (crc_steps (8 * (after + 1)) x) (crc_fold 0 (drop (i + 1) bytes))) (xor_zero_l (get_or bytes i 0))

-- four bytes alone, and those after them
pub fresh_four : (bytes : List ℕ) (i after : ℕ) → i + 4 + after ≡ length bytes → ((k : ℕ) → get_or bytes k 0 < 256)
    → crc_fold 0 (drop i bytes)
    ≡ bit_xor (crc_steps (8 * (after + 3 + 1)) (get_or bytes i 0))
    (bit_xor (crc_steps (8 * (after + 2 + 1)) (get_or bytes (i + 1) 0))
    (bit_xor (crc_steps (8 * (after + 1 + 1)) (get_or bytes (i + 1 + 1) 0))
    (bit_xor (crc_steps (8 * (after + 1)) (get_or bytes (i + 1 + 1 + 1) 0)) (crc_fold 0 (drop (i + 1 + 1 + 1 + 1) bytes)))))
fresh_four bytes i after e h =
    let t0 : ℕ = crc_steps (8 * (after + 3 + 1)) (get_or bytes i 0) in
    let t1 : ℕ = crc_steps (8 * (after + 2 + 1)) (get_or bytes (i + 1) 0) in
    let t2 : ℕ = crc_steps (8 * (after + 1 + 1)) (get_or bytes (i + 1 + 1) 0) in
    split_fresh bytes i (after + 3) (omega (arith, e)) (h i)
    ∙ ap (bit_xor t0) (split_fresh bytes (i + 1) (after + 2) (omega (arith, e)) (h (i + 1))
    ∙ ap (bit_xor t1) (split_fresh bytes (i + 1 + 1) (after + 1) (omega (arith, e)) (h (i + 1 + 1))
    ∙ ap (bit_xor t2) (split_fresh bytes (i + 1 + 1 + 1) after (omega (arith, e)) (h (i + 1 + 1 + 1)))))

-- what the bytes from i on add, each by itself
unfoldable pub fresh_sum : List ℕ → ℕ → ℕ → ℕ
fresh_sum bytes zero i = crc_steps 8 (get_or bytes i 0)
fresh_sum bytes (suc after) i = bit_xor (crc_steps (8 * (suc after + 1)) (get_or bytes i 0)) (fresh_sum bytes after (i + 1))

pub fresh_all : (bytes : List ℕ) (after i : ℕ) → i + 1 + after ≡ length bytes → ((k : ℕ) → get_or bytes k 0 < 256)
    → crc_fold 0 (drop i bytes) ≡ fresh_sum bytes after i
unfolding fresh_sum
fresh_all bytes zero i e h =
    split_fresh bytes i 0 e (h i)
    ∙ ap (bit_xor (crc_steps 8 (get_or bytes i 0))) (fold_end 0 bytes (i + 1) (omega (arith, e)))
    ∙ xor_zero_r (crc_steps 8 (get_or bytes i 0))
fresh_all bytes (suc after) i e h =
    split_fresh bytes i (suc after) e (h i)
    ∙ ap (bit_xor (crc_steps (8 * (suc after + 1)) (get_or bytes i 0))) (fresh_all bytes after (i + 1) (omega (arith, e)) h)

-- the first four of `after + 4` bytes take the whole state with them
pub word_off : (c : ℕ) (bytes : List ℕ) (after : ℕ) → c < 2 ^ 32 → 4 + after ≡ length bytes → ((k : ℕ) → get_or bytes k 0 < 256)
    → crc_fold c bytes
    ≡ bit_xor (crc_steps (8 * (after + 3 + 1)) (bit_xor (bit_and c 255) (get_or bytes 0 0)))
    (bit_xor (crc_steps (8 * (after + 2 + 1)) (bit_xor (bit_and (c / 256) 255) (get_or bytes 1 0)))
    (bit_xor (crc_steps (8 * (after + 1 + 1)) (bit_xor (bit_and (c / 65536) 255) (get_or bytes 2 0)))
    (bit_xor (crc_steps (8 * (after + 1)) (bit_xor (c / 16777216) (get_or bytes 3 0))) (crc_fold 0 (drop 4 bytes)))))
word_off c bytes after small e h =
    let t0 : ℕ = crc_steps (8 * (after + 3 + 1)) (bit_xor (bit_and c 255) (get_or bytes 0 0)) in
    let t1 : ℕ = crc_steps (8 * (after + 2 + 1)) (bit_xor (bit_and (c / 256) 255) (get_or bytes 1 0)) in
    let t2 : ℕ = crc_steps (8 * (after + 1 + 1)) (bit_xor (bit_and (c / 65536) 255) (get_or bytes 2 0)) in
    let c2 : c / 256 / 256 ≡ c / 65536 = omega arith in
    let c3 : c / 65536 / 256 ≡ c / 16777216 = omega arith in
    let c3_low : bit_and (c / 16777216) 255 ≡ c / 16777216 = and_mask (c / 16777216) 8 ∙ omega arith in
    let c4 : c / 16777216 / 256 ≡ 0 = omega arith in
    split_off c bytes 0 (after + 3) (omega (arith, e)) (h 0)
    ∙ ap (bit_xor t0) (split_off (c / 256) bytes 1 (after + 2) (omega (arith, e)) (h 1)
    ∙ ap (bit_xor t1) (ap (λ s. crc_fold s (drop 2 bytes)) c2 ∙ split_off (c / 65536) bytes 2 (after + 1) (omega (arith, e)) (h 2)
    ∙ ap (bit_xor t2) (ap (λ s. crc_fold s (drop 3 bytes)) c3 ∙ split_off (c / 16777216) bytes 3 after (omega (arith, e)) (h 3)
    ∙ ap (λ x. bit_xor (crc_steps (8 * (after + 1)) (bit_xor x (get_or bytes 3 0))) (crc_fold (c / 16777216 / 256) (drop 4 bytes))) c3_low
    ∙ ap (λ s. bit_xor (crc_steps (8 * (after + 1)) (bit_xor (c / 16777216) (get_or bytes 3 0))) (crc_fold s (drop 4 bytes))) c4)))

pub word_only : (c : ℕ) (bytes : List ℕ) → c < 2 ^ 32 → 4 ≡ length bytes → ((k : ℕ) → get_or bytes k 0 < 256)
    → crc_fold c bytes
    ≡ bit_xor (crc_steps 32 (bit_xor (bit_and c 255) (get_or bytes 0 0)))
    (bit_xor (crc_steps 24 (bit_xor (bit_and (c / 256) 255) (get_or bytes 1 0)))
    (bit_xor (crc_steps 16 (bit_xor (bit_and (c / 65536) 255) (get_or bytes 2 0)))
    (crc_steps 8 (bit_xor (c / 16777216) (get_or bytes 3 0)))))
word_only c bytes small e h =
    let t0 : ℕ = crc_steps 32 (bit_xor (bit_and c 255) (get_or bytes 0 0)) in
    let t1 : ℕ = crc_steps 24 (bit_xor (bit_and (c / 256) 255) (get_or bytes 1 0)) in
    let t2 : ℕ = crc_steps 16 (bit_xor (bit_and (c / 65536) 255) (get_or bytes 2 0)) in
    let t3 : ℕ = crc_steps 8 (bit_xor (c / 16777216) (get_or bytes 3 0)) in
    word_off c bytes 0 small e h
    ∙ ap (λ x. bit_xor t0 (bit_xor t1 (bit_xor t2 x))) (ap (bit_xor t3) (fold_end 0 bytes 4 (omega (arith, e))) ∙ xor_zero_r t3)

-- the sums as the code groups them

abbrev pub four : ℕ → ℕ → ℕ → ℕ → ℕ
four a b c d = bit_xor (bit_xor (bit_xor a b) c) d

pub four_is : (a b c d : ℕ) → four a b c d ≡ bit_xor a (bit_xor b (bit_xor c d))
four_is a b c d = simp xor_assoc

pub four_and : (a b c d rest : ℕ) → bit_xor (four a b c d) rest ≡ bit_xor a (bit_xor b (bit_xor c (bit_xor d rest)))
four_and a b c d rest = simp xor_assoc

pub eight : (a b c d e f g h : ℕ) → bit_xor (four a b c d) (four e f g h)
    ≡ bit_xor a (bit_xor b (bit_xor c (bit_xor d (bit_xor e (bit_xor f (bit_xor g h))))))
eight a b c d e f g h = simp xor_assoc

-- the lowest byte of a word with the state mixed in
mixed_low : (low c b : ℕ) → low % 256 ≡ b → bit_and (bit_xor low c) 255 ≡ bit_xor (bit_and c 255) b
mixed_low low c b e =
    and_mask (bit_xor low c) 8
    ∙ xor_mod low c 8
    ∙ ap (λ x. bit_xor x (c % 256)) e
    ∙ xor_comm b (c % 256)
    ∙ ap (λ x. bit_xor x b) (sym (and_mask c 8))

-- another one
mixed_byte : (low c k b : ℕ) → low / 2 ^ k % 256 ≡ b → bit_and (bit_xor low c / 2 ^ k) 255 ≡ bit_xor (bit_and (c / 2 ^ k) 255) b
mixed_byte low c k b e =
    and_mask (bit_xor low c / 2 ^ k) 8
    ∙ ap (λ x. x % 256) (xor_shr low c k)
    ∙ xor_mod (low / 2 ^ k) (c / 2 ^ k) 8
    ∙ ap (λ x. bit_xor x (c / 2 ^ k % 256)) e
    ∙ xor_comm b (c / 2 ^ k % 256)
    ∙ ap (λ x. bit_xor x b) (sym (and_mask (c / 2 ^ k) 8))

-- and the highest, above which nothing is left
mixed_top : (low c b : ℕ) → low / 16777216 ≡ b → bit_xor low c / 16777216 ≡ bit_xor (c / 16777216) b
mixed_top low c b e =
    xor_shr low c 24 ∙ ap (λ x. bit_xor x (c / 16777216)) e ∙ xor_comm b (c / 16777216)

-- and so all four
pub mixed : (w s : ℕ) (bytes : List ℕ) → ((k : ℕ) → get_or bytes k 0 < 256)
    → w ≡ get_or bytes 0 0 + get_or bytes 1 0 * 256 + get_or bytes 2 0 * 65536 + get_or bytes 3 0 * 16777216
    → (bit_and (bit_xor w s) 255 ≡ bit_xor (bit_and s 255) (get_or bytes 0 0))
    × (bit_and (bit_xor w s / 256) 255 ≡ bit_xor (bit_and (s / 256) 255) (get_or bytes 1 0))
    × (bit_and (bit_xor w s / 65536) 255 ≡ bit_xor (bit_and (s / 65536) 255) (get_or bytes 2 0))
    × (bit_xor w s / 16777216 ≡ bit_xor (s / 16777216) (get_or bytes 3 0))
mixed w s bytes small is =
    let w0 : w % 256 ≡ get_or bytes 0 0 = omega (arith, is, small 0, small 1, small 2, small 3) in
    let w1 : w / 256 % 256 ≡ get_or bytes 1 0 = omega (arith, is, small 0, small 1, small 2, small 3) in
    let w2 : w / 65536 % 256 ≡ get_or bytes 2 0 = omega (arith, is, small 0, small 1, small 2, small 3) in
    let w3 : w / 16777216 ≡ get_or bytes 3 0 = omega (arith, is, small 0, small 1, small 2, small 3) in (
      mixed_low w s (get_or bytes 0 0) w0,
      mixed_byte w s 8 (get_or bytes 1 0) w1,
      mixed_byte w s 16 (get_or bytes 2 0) w2,
      mixed_top w s (get_or bytes 3 0) w3,
    )
