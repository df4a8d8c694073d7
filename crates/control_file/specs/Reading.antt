-- What the bytes of a control file say: PostgreSQL 16, src/include/catalog/pg_control.h, ControlFileData and CheckPoint.
use Rattle.std.specs.Prelude.{ℕ, ◌+◌, List, length, max, nat_lt, if◌then◌else◌, Option, Some, None}
use Rattle.layout.specs.Readers.{u8_at, u32_at, u64_at, i64_at, raw_at}
use Rattle.control_file.specs.declared.checkpoint.Checkpoint.{Checkpoint}
use Rattle.control_file.specs.declared.control.Control.{Control}

-- the checkpoint copy in the 88 bytes from here
unfoldable pub checkpoint_at : ℕ → List ℕ → Checkpoint
checkpoint_at at bytes = record {
  redo = u64_at at bytes;
  tli = u32_at (at + 8) bytes;
  prevTli = u32_at (at + 12) bytes;
  fpw = u8_at (at + 16) bytes;
  nextXid = u64_at (at + 24) bytes;
  nextOid = u32_at (at + 32) bytes;
  nextMulti = u32_at (at + 36) bytes;
  nextMultiOffset = u32_at (at + 40) bytes;
  oldestXid = u32_at (at + 44) bytes;
  oldestXidDb = u32_at (at + 48) bytes;
  oldestMulti = u32_at (at + 52) bytes;
  oldestMultiDb = u32_at (at + 56) bytes;
  time = i64_at (at + 64) bytes;
  oldestCommitTs = u32_at (at + 72) bytes;
  newestCommitTs = u32_at (at + 76) bytes;
  oldestActiveXid = u32_at (at + 80) bytes;
}

-- the fields of a control file
unfoldable pub fields_at : List ℕ → Control
fields_at bytes = record {
  sysid = u64_at 0 bytes;
  version = u32_at 8 bytes;
  catalog = u32_at 12 bytes;
  state = u32_at 16 bytes;
  time = i64_at 24 bytes;
  checkPoint = u64_at 32 bytes;
  cp = checkpoint_at 40 bytes;
  unloggedLsn = u64_at 128 bytes;
  minRecoveryPoint = u64_at 136 bytes;
  minRecoveryPointTli = u32_at 144 bytes;
  backupStart = u64_at 152 bytes;
  backupEnd = u64_at 160 bytes;
  endRequired = u8_at 168 bytes;
  walLevel = u32_at 172 bytes;
  walLogHints = u8_at 176 bytes;
  maxConnections = u32_at 180 bytes;
  maxWorkers = u32_at 184 bytes;
  maxSenders = u32_at 188 bytes;
  maxPrepared = u32_at 192 bytes;
  maxLocks = u32_at 196 bytes;
  trackCommitTs = u8_at 200 bytes;
  maxAlign = u32_at 204 bytes;
  floatFormat = u64_at 208 bytes;
  blcksz = u32_at 216 bytes;
  relseg = u32_at 220 bytes;
  walBlcksz = u32_at 224 bytes;
  walSegSize = u32_at 228 bytes;
  nameLen = u32_at 232 bytes;
  indexKeys = u32_at 236 bytes;
  toastChunk = u32_at 240 bytes;
  loBlock = u32_at 244 bytes;
  float8ByVal = u8_at 248 bytes;
  checksumVersion = u32_at 252 bytes;
  nonce = raw_at 256 bytes;
}

-- the checkpoint copy at the front of these bytes, if they are enough
abbrev pub checkpoint_of : List ℕ → Option Checkpoint
checkpoint_of bytes = if nat_lt (length bytes) 88 then None else Some (checkpoint_at 0 bytes)

-- the greater of the timelines of the minimum recovery point and of the checkpoint
abbrev pub timeline_of : Control → ℕ
timeline_of control = max control.minRecoveryPointTli control.cp.tli
