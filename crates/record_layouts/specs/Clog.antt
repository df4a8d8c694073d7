-- The manager CLOG: PostgreSQL 16, src/include/access/clog.h.
use Rattle.std.specs.Prelude.{ℕ, List, ◌==◌, bit_and, if◌then◌else◌, Option, Bool, true, is_some}
use Rattle.layout.specs.Readers.{u32_at}
use Rattle.layout_readers.specs.Whole.{whole}
use Rattle.record_layouts.specs.declared.clog.ClogOp.{ClogOp}
use Rattle.record_layouts.specs.declared.clog.ClogOp.TheVariants as op
use Rattle.record_layouts.specs.declared.clog.ClogZeroPage.{ClogZeroPage}
use Rattle.record_layouts.specs.declared.clog.ClogTruncate.{ClogTruncate}

-- the operation of a number
abbrev pub clog_op_numbered : ℕ → ClogOp
clog_op_numbered number =
    if number == 0x00 then op.ZeroPage
    else if number == 0x10 then op.Truncate
    else op.Unlisted number

-- the operation of `info`, without its low four bits
unfoldable pub clog_op_of : ℕ → ClogOp
clog_op_of info = clog_op_numbered (bit_and info 0xF0)

-- the number of an operation
abbrev pub clog_number : ClogOp → ℕ
clog_number op.ZeroPage = 0x00
clog_number op.Truncate = 0x10
clog_number (op.Unlisted number) = number

-- ZEROPAGE, in src/backend/access/transam/clog.c
abbrev pub clog_zero_page_of : List ℕ → Option ClogZeroPage
clog_zero_page_of bytes = whole 4 bytes record {
  page = u32_at 0 bytes;
}

-- TRUNCATE: xl_clog_truncate
abbrev pub clog_truncate_of : List ℕ → Option ClogTruncate
clog_truncate_of bytes = whole 12 bytes record {
  page = u32_at 0 bytes;
  oldest_xid = u32_at 4 bytes;
  oldest_xid_db = u32_at 8 bytes;
}

-- the main bytes hold the whole layout of an operation
abbrev pub clog_is_whole : ClogOp → List ℕ → Bool
clog_is_whole op.ZeroPage main = is_some (clog_zero_page_of main)
clog_is_whole op.Truncate main = is_some (clog_truncate_of main)
clog_is_whole (op.Unlisted number) main = true
