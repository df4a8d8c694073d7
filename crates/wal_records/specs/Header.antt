-- The header of a record, and what can be wrong with it: PostgreSQL 16, src/include/access/xlogrecord.h, XLogRecord;
-- src/backend/access/transam/xlogreader.c, ValidXLogRecordHeader and ValidXLogRecord.
use Rattle.std.specs.Prelude.{ℕ, ◌==◌, ◌&&◌, Bool, List, ◌++◌, take, drop, Option, Some, None, nat_lt, nat_le, if◌then◌else◌}
use Rattle.layout.specs.Readers.{u8_at, u32_at, u64_at}
use Rattle.wal_base.specs.Crc.{crc32c}
use Rattle.wal_records.specs.declared.header.RecordHeader.{RecordHeader}
use Rattle.wal_records.specs.declared.why.Why.{Why}
use Rattle.wal_records.specs.declared.why.Why.TheVariants as why

-- the header at the front of these bytes: xl_tot_len, xl_xid, xl_prev, xl_info, xl_rmid and xl_crc
abbrev pub header_of : List ℕ → RecordHeader
header_of bytes = record {
  total = u32_at 0 bytes;
  xid = u32_at 4 bytes;
  prev = record { 0 = u64_at 8 bytes };
  info = u8_at 16 bytes;
  manager = u8_at 17 bytes;
  crc = u32_at 20 bytes;
}

-- the longest record: 1020 MiB, XLogRecordMaxSize
abbrev pub greatest_total : ℕ
greatest_total = 0x3FC00000

-- what is wrong with a record's length, if anything is
abbrev pub length_fault : ℕ → Option Why
length_fault total =
    if total == 0 then Some why.ZeroLength
    else if nat_lt total 24 then Some why.ShortLength
    else if nat_lt greatest_total total then Some why.TooLong
    else None

-- the link back is the start of the record before; that of a first record is below its own place. Own: "The first record's link".
abbrev pub is_linked : Option ℕ → ℕ → ℕ → Bool
is_linked None place prev = nat_lt prev place
is_linked (Some before) place prev = prev == before

-- a number that no resource manager has: from 22 to 127
abbrev pub is_no_manager : ℕ → Bool
is_no_manager manager = nat_le 22 manager && nat_lt manager 128

-- what is wrong with a header but for its length, if anything is
abbrev pub header_fault : Option ℕ → ℕ → RecordHeader → Option Why
header_fault before place header =
    if is_no_manager header.manager then Some why.Manager
    else if is_linked before place header.prev.0 then None
    else Some why.Prev

-- the checksum of a record's bytes: of its body, and then of the header's first 20 bytes
abbrev pub checksum : List ℕ → ℕ
checksum bytes = crc32c (drop 24 bytes ++ take 20 bytes)
