-- The bytes of the files of a pair: PostgreSQL 16, src/include/catalog/pg_control.h; src/bin/pg_rewind/pg_rewind.c, createBackupLabel. Own: "A pair from a number".
use Rattle.std.specs.Prelude.{ℕ, pos, ◌∷◌, ◌++◌, List, [], codes, replicate}
use Rattle.std.specs.List.{flat_map, range_with_len}
use Rattle.backup_label.specs.declared.label.Label.{Label}
use Rattle.control_file.specs.declared.checkpoint.Checkpoint.{Checkpoint}
use Rattle.control_file.specs.declared.control.Control.{Control}
use Rattle.reset_plan.specs.Plan.{padded}
use Rattle.wal_records.specs.Writer.{NewRecord, log_bytes_of}
use Rattle.pair_maker.specs.Blocks.{block_page}
use Rattle.pair_maker.specs.Logs.{block_end, common_place, last_checkpoint, last_place, made_at, megabyte, origin_of, system}
use Rattle.pair_maker.specs.declared.side.Side.{Side}

-- the relation: its blocks, each as its own insert left it
unfoldable pub relation_bytes : Side → (seed blocks : ℕ) → List ℕ
relation_bytes side seed blocks = flat_map (λ block. block_page seed block (block_end side seed block)) (range_with_len 0 blocks)

-- a segment: the log of these records, and zeros
unfoldable pub segment_bytes : Side → List NewRecord → List ℕ
segment_bytes side records = padded (log_bytes_of (origin_of side) records) 0x10_0000

-- a control file of a cluster that was shut down (1) with this checkpoint, whose redo is its record's place
abbrev pub control_with : Checkpoint → Control
control_with cp = record {
  sysid = system;
  version = 1300;
  catalog = 202307071;
  state = 1;
  time = pos made_at;
  checkPoint = cp.redo;
  cp = cp;
  unloggedLsn = 1000;
  minRecoveryPoint = 0;
  minRecoveryPointTli = 0;
  backupStart = 0;
  backupEnd = 0;
  endRequired = 0;
  walLevel = 1;
  walLogHints = 1;
  maxConnections = 100;
  maxWorkers = 8;
  maxSenders = 10;
  maxPrepared = 0;
  maxLocks = 64;
  trackCommitTs = 0;
  maxAlign = 8;
  floatFormat = 0x4132_D687_0000_0000;
  blcksz = 8192;
  relseg = 131072;
  walBlcksz = 8192;
  walSegSize = 0x10_0000;
  nameLen = 64;
  indexKeys = 32;
  toastChunk = 1996;
  loBlock = 2048;
  float8ByVal = 1;
  checksumVersion = 0;
  nonce = replicate 32 0;
}

abbrev pub control_of : Side → (seed blocks : ℕ) → Control
control_of side seed blocks = control_with (last_checkpoint side (last_place side seed blocks))

-- the label of a rewind, which begins at the common checkpoint
abbrev pub pair_label : Label
pair_label = record {
  start = record { 0 = common_place };
  tli = 1;
  size = megabyte;
  checkpoint = record { 0 = common_place };
  time = pos made_at;
}

-- the history of timeline 2: it left timeline 1 where the common checkpoint ends
abbrev pub history_bytes : List ℕ
history_bytes = codes "1" ++ (9 ∷ (codes "0/1000A0" ++ (9 ∷ (codes "promoted" ++ 10 ∷ []))))

-- the version
abbrev pub version_bytes : List ℕ
version_bytes = codes "16" ++ 10 ∷ []
