-- The manager Standby: PostgreSQL 16, src/include/storage/standbydefs.h.
use Rattle.std.specs.Prelude.{ℕ, List, ◌==◌, bit_and, if◌then◌else◌, Option, Bool, true, is_some}
use Rattle.layout.specs.Readers.{u8_at, u32_at}
use Rattle.layout_readers.specs.Whole.{whole}
use Rattle.record_layouts.specs.Fields.{int_at}
use Rattle.record_layouts.specs.declared.standby.StandbyOp.{StandbyOp}
use Rattle.record_layouts.specs.declared.standby.StandbyOp.TheVariants as op
use Rattle.record_layouts.specs.declared.standby.RunningXacts.{RunningXacts}

-- the operation of a number
abbrev pub standby_op_numbered : ℕ → StandbyOp
standby_op_numbered number =
    if number == 0x00 then op.Lock
    else if number == 0x10 then op.RunningXacts
    else if number == 0x20 then op.Invalidations
    else op.Unlisted number

-- the operation of `info`, without its low four bits
unfoldable pub standby_op_of : ℕ → StandbyOp
standby_op_of info = standby_op_numbered (bit_and info 0xF0)

-- the number of an operation
abbrev pub standby_number : StandbyOp → ℕ
standby_number op.Lock = 0x00
standby_number op.RunningXacts = 0x10
standby_number op.Invalidations = 0x20
standby_number (op.Unlisted number) = number

-- RUNNING_XACTS: xl_running_xacts, but for the transactions behind it. Its counts count none of these bytes, so a negative one is as good as any
abbrev pub running_xacts_of : List ℕ → Option RunningXacts
running_xacts_of bytes = whole 24 bytes record {
  count = int_at 0 bytes;
  subcount = int_at 4 bytes;
  overflow = u8_at 8 bytes;
  next_xid = u32_at 12 bytes;
  oldest_xid = u32_at 16 bytes;
  latest_xid = u32_at 20 bytes;
}

-- the main bytes hold the whole layout of an operation
abbrev pub standby_is_whole : StandbyOp → List ℕ → Bool
standby_is_whole op.Lock main = true
standby_is_whole op.RunningXacts main = is_some (running_xacts_of main)
standby_is_whole op.Invalidations main = true
standby_is_whole (op.Unlisted number) main = true
