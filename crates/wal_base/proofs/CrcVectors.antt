-- The published sums, computed from the definition alone: RFC 3720, appendix B.4, and the usual one of nine digits.
use Rattle.std.proofs.Common.{◌≡◌, [], codes, replicate, refl}
use Rattle.wal_base.specs.Crc.{crc_step, crc_steps, crc_byte, crc_fold, crc32c}

none : crc32c [] ≡ 0
unfolding crc32c crc_fold
none = refl

nine_digits : crc32c (codes "123456789") ≡ 0xE3069283
unfolding crc32c crc_fold crc_byte crc_steps crc_step
nine_digits = refl

zeros : crc32c (replicate 32 0) ≡ 0x8A9136AA
unfolding crc32c crc_fold crc_byte crc_steps crc_step
zeros = refl

ones : crc32c (replicate 32 255) ≡ 0x62A8AB43
unfolding crc32c crc_fold crc_byte crc_steps crc_step
ones = refl
