-- The size of so many bytes: PostgreSQL 16, src/include/access/xlog_internal.h, IsValidWalSegSize.
use Rattle.std.specs.Prelude.{◌≡◌, ℕ, ◌^◌, ◌&&◌, Bool, true, false, nat_le, Option, None, Some}
use Rattle.std.specs.Int.{is_power_of_two}
use Rattle.std.proofs.Common.{refl}
use Rattle.std.proofs.lemmas.Bool.{and_parts, leb-true}
use Rattle.wal_base.specs.SegSize.{IsSegSize, is_seg_size}
use Rattle.wal_base.specs.declared.seg_size.SegSize.{SegSize}

-- what the test says
pub is_size : (bytes : ℕ) → is_seg_size bytes ≡ true → IsSegSize bytes
is_size bytes h =
    let outer = and_parts (is_power_of_two bytes && nat_le (2 ^ 20) bytes) (nat_le bytes (2 ^ 30)) h in
    let inner = and_parts (is_power_of_two bytes) (nat_le (2 ^ 20) bytes) outer.0 in
    record { power = inner.0; least = leb-true (2 ^ 20) bytes inner.1; greatest = leb-true bytes (2 ^ 30) outer.1 }

-- the size of so many bytes, if the test is true of them
abbrev pub size_when : (bytes : ℕ) (t : Bool) → is_seg_size bytes ≡ t → Option SegSize
size_when bytes true is = Some (record { bytes = bytes; is_size = is_size bytes is })
size_when bytes false is = None

-- the size of so many bytes, or none where that isn't a power of two from 1 MiB to 1 GiB
unfoldable pub size_of_bytes : ℕ → Option SegSize
size_of_bytes bytes = size_when bytes (is_seg_size bytes) refl
