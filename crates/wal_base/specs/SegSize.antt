-- The size of a segment file: PostgreSQL 16, src/include/access/xlog_internal.h, IsValidWalSegSize.
use Rattle.std.specs.Prelude.{ℕ, ◌^◌, ◌≤◌, ◌&&◌, Bool, IsTrue, nat_le}
use Rattle.std.specs.Int.{is_power_of_two}

-- a power of two from 1 MiB to 1 GiB
pub record IsSegSize (bytes : ℕ) : Type 0 where
  pub power : IsTrue (is_power_of_two bytes)
  pub least : 2 ^ 20 ≤ bytes
  pub greatest : bytes ≤ 2 ^ 30

-- the test for it
abbrev pub is_seg_size : ℕ → Bool
is_seg_size bytes = is_power_of_two bytes && nat_le (2 ^ 20) bytes && nat_le bytes (2 ^ 30)
