-- A tuple's infomasks: PostgreSQL 16, src/include/access/htup_details.h; what records tell of them: heapam_xlog.h, XLHL_.., and
-- src/backend/access/heap/heapam.c, fix_infomask_from_infobits.
use Rattle.std.specs.Prelude.{ℕ, ◌+◌, ◌*◌, ◌/◌, ◌%◌, ◌==◌, ◌&&◌, ◌||◌, Bool}

-- the bit of this weight, as 0 or 1
abbrev pub bit : ℕ → ℕ → ℕ
bit weight n = n / weight % 2

-- is it set
abbrev pub has_bit : ℕ → ℕ → Bool
has_bit weight n = bit weight n == 1

-- t_infomask without HEAP_XMAX_BITS and HEAP_MOVED, which are DCD0: 2000, 0300 and 002F stay
abbrev pub without_xmax_bits : ℕ → ℕ
without_xmax_bits n = bit 0x2000 n * 0x2000 + n / 0x100 % 4 * 0x100 + bit 0x20 n * 0x20 + n % 0x10

-- HEAP_XMAX_IS_MULTI, .._LOCK_ONLY, .._EXCL_LOCK and .._KEYSHR_LOCK, as the record tells them
abbrev pub told_xmax_bits : ℕ → ℕ
told_xmax_bits infobits = bit 1 infobits * 0x1000 + bit 2 infobits * 0x80 + bit 4 infobits * 0x40 + bit 8 infobits * 0x10

-- t_infomask with them
abbrev pub told_infomask : ℕ → ℕ → ℕ
told_infomask infobits n = without_xmax_bits n + told_xmax_bits infobits

-- t_infomask2 with HEAP_KEYS_UPDATED, 2000, as the record tells it
abbrev pub told_infomask2 : ℕ → ℕ → ℕ
told_infomask2 infobits n = n / 0x4000 * 0x4000 + bit 0x10 infobits * 0x2000 + n % 0x2000

-- t_infomask2 without HEAP_HOT_UPDATED, 4000, and with it
abbrev pub hot_off : ℕ → ℕ
hot_off n = n / 0x8000 * 0x8000 + n % 0x4000

abbrev pub hot_on : ℕ → ℕ
hot_on n = hot_off n + 0x4000

-- t_infomask without HEAP_COMBOCID, 0020
abbrev pub without_combo : ℕ → ℕ
without_combo n = n / 0x40 * 0x40 + n % 0x20

-- what is told of xmax says that it only locks (HEAP_XMAX_IS_LOCKED_ONLY)
abbrev pub locks_only : ℕ → Bool
locks_only infobits = has_bit 2 infobits || has_bit 4 infobits && bit 1 infobits == 0 && bit 8 infobits == 0
