-- The control file that a reset writes: PostgreSQL 16, src/bin/pg_resetwal/pg_resetwal.c, main and RewriteControlFile. Own: "The numbers of a reset".
use Rattle.std.specs.Prelude.{ℕ, ℤ, ◌+◌, ◌*◌, ◌/◌, ◌%◌, ◌^◌, ◌==◌, if◌then◌else◌, nat_lt, max, Option, unwrap_or}
use Rattle.std.specs.Option.{option_map_or}
use Rattle.control_file.specs.declared.checkpoint.Checkpoint.{Checkpoint}
use Rattle.control_file.specs.declared.control.Control.{Control}
use Rattle.reset_numbers.specs.declared.options.ResetOptions.{ResetOptions}

-- the bytes of a segment: as many megabytes as are given (--wal-segsize), or those that it had
abbrev pub new_size : ResetOptions → ℕ → ℕ
new_size options old = option_map_or (λ mb. mb * 2 ^ 20) options.segment_mb old

-- a greater timeline that is given (-l) becomes the timeline
abbrev pub new_tli : Option (ℕ × ℕ × ℕ) → ℕ → ℕ
new_tli given tli = option_map_or (λ log. max tli log.0) given tli

-- and the one before it too
abbrev pub new_prev_tli : Option (ℕ × ℕ × ℕ) → ℕ → ℕ → ℕ
new_prev_tli given tli prev = option_map_or (λ log. if nat_lt tli log.0 then log.0 else prev) given prev

-- the next transaction: its high half is the epoch that is given (-e), its low half the id (-x)
abbrev pub new_xid : Option ℕ → Option ℕ → ℕ → ℕ
new_xid epoch xid next = unwrap_or epoch (next / 2 ^ 32) * 2 ^ 32 + unwrap_or xid (next % 2 ^ 32)

-- an end of the commit timestamps that is given (-c), unless that is 0
abbrev pub new_end : ℕ → ℕ → ℕ
new_end given old = if given == 0 then old else given

-- the checkpoint that ends the new log, with its redo at its own record
unfoldable pub new_checkpoint : ResetOptions → ℤ → ℕ → Checkpoint → Checkpoint
new_checkpoint options now at cp = record {
  redo = at;
  tli = new_tli options.log cp.tli;
  prevTli = new_prev_tli options.log cp.tli cp.prevTli;
  fpw = cp.fpw;
  nextXid = new_xid options.epoch options.xid cp.nextXid;
  nextOid = unwrap_or options.oid cp.nextOid;
  nextMulti = option_map_or (λ ids. ids.0) options.multi cp.nextMulti;
  nextMultiOffset = unwrap_or options.multi_offset cp.nextMultiOffset;
  oldestXid = unwrap_or options.oldest_xid cp.oldestXid;
  oldestXidDb = option_map_or (λ xid. 0) options.oldest_xid cp.oldestXidDb;
  oldestMulti = option_map_or (λ ids. ids.1) options.multi cp.oldestMulti;
  oldestMultiDb = option_map_or (λ ids. 0) options.multi cp.oldestMultiDb;
  time = now;
  oldestCommitTs = option_map_or (λ ends. new_end ends.0 cp.oldestCommitTs) options.commit_ts cp.oldestCommitTs;
  newestCommitTs = option_map_or (λ ends. new_end ends.1 cp.newestCommitTs) options.commit_ts cp.newestCommitTs;
  oldestActiveXid = cp.oldestActiveXid;
}

-- the control file: shut down, at that checkpoint, with no recovery to go on with and the settings of a server that has just been set up
unfoldable pub new_control : ResetOptions → ℤ → ℕ → ℕ → Control → Control
new_control options now at size old = record old {
  state = 1;
  time = now;
  checkPoint = at;
  cp = new_checkpoint options now at old.cp;
  minRecoveryPoint = 0;
  minRecoveryPointTli = 0;
  backupStart = 0;
  backupEnd = 0;
  endRequired = 0;
  walLevel = 0;
  walLogHints = 0;
  maxConnections = 100;
  maxWorkers = 8;
  maxSenders = 10;
  maxPrepared = 0;
  maxLocks = 64;
  trackCommitTs = 0;
  walSegSize = size;
}
