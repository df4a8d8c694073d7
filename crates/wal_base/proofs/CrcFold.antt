-- Bytes one after another.
use Rattle.std.proofs.Common.{◌≡◌, ℕ, ◌+◌, ◌%◌, ◌^◌, ◌<◌, ◌≤◌, List, [], ◌∷◌, ◌++◌, bit_xor, get_or, drop, length, refl, arith, add-one, drop-cons, lit<}
use Rattle.std.proofs.lemmas.List.{drop_all}
use Rattle.std.proofs.lemmas.Nat.{xor_lt, mod_below}
use Rattle.wal_base.specs.Crc.{crc_byte, crc_fold, crc_start, crc32c}
use Rattle.wal_base.proofs.CrcSteps.{steps_below}

-- one byte of a loop over the bytes
pub fold_step : (c : ℕ) (bytes : List ℕ) (i : ℕ) → i < length bytes → crc_fold c (drop i bytes) ≡ crc_fold (crc_byte c (get_or bytes i 0)) (drop (i + 1) bytes)
unfolding crc_fold
fold_step c bytes i h = rw (add-one, drop-cons bytes i 0) refl

pub fold_end : (c : ℕ) (bytes : List ℕ) (i : ℕ) → length bytes ≤ i → crc_fold c (drop i bytes) ≡ c
unfolding crc_fold
fold_end c bytes i h = rw (drop_all i bytes h) refl

pub fold_append : (c : ℕ) (a b : List ℕ) → crc_fold c (a ++ b) ≡ crc_fold (crc_fold c a) b
unfolding crc_fold
fold_append c [] b = refl
fold_append c (x ∷ a) b = fold_append (crc_byte c x) a b

byte_below : (c b : ℕ) → c < 2 ^ 32 → crc_byte c b < 2 ^ 32
unfolding crc_byte
byte_below c b h =
    let byte = mod_below b 256 (omega arith) in
    let small : b % 256 < 2 ^ 32 = omega arith in
    steps_below 8 (bit_xor c (b % 256)) (xor_lt 32 c (b % 256) h small)

pub fold_below : (c : ℕ) (bytes : List ℕ) → c < 2 ^ 32 → crc_fold c bytes < 2 ^ 32
unfolding crc_fold
fold_below c [] h = h
fold_below c (b ∷ bytes) h = fold_below (crc_byte c b) bytes (byte_below c b h)

-- the checksum of any list is a word
pub crc32c_below : (bytes : List ℕ) → crc32c bytes < 2 ^ 32
unfolding crc32c
crc32c_below bytes = xor_lt 32 (crc_fold crc_start bytes) crc_start (fold_below crc_start bytes (lit< tt)) (lit< tt)
