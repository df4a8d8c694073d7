-- The control file as replay takes it along and leaves it: PostgreSQL 16, src/backend/access/transam/xlog.c, xlog_redo,
-- RecoveryRestartPoint and CreateRestartPoint. Own: "The control file after a replay".
use Rattle.std.specs.Prelude.{ℕ, ◌<◌, ◌^◌, ℤ, pos, negsuc, Option, None, Some}
use Rattle.block_refs.specs.Parts.{PartsView}
use Rattle.control_file.specs.declared.checkpoint.Checkpoint.{Checkpoint}
use Rattle.control_file.specs.declared.control.Control.{Control}
use Rattle.record_layouts.specs.declared.xlog.ParameterChange.{ParameterChange}
use Rattle.wal_records.specs.Reading.{LogRecord}
use Rattle.replay_control.specs.Said.{change_said, checkpoint_said}

-- the last checkpoint's record, by its start, and its copy
abbrev pub with_checkpoint : ℕ → Option Checkpoint → Control → Control
with_checkpoint start None control = control
with_checkpoint start (Some cp) control = record control { checkPoint = start; cp = cp }

-- a number that isn't below 0
abbrev pub counted : ℤ → ℕ
counted (pos n) = n
counted (negsuc n) = 0

-- each setting that counts is such a number, of 32 bits with their sign
abbrev pub AreSmall : ParameterChange → Type 0
AreSmall change =
    (counted change.max_connections < 2 ^ 31) × (counted change.max_workers < 2 ^ 31) × (counted change.max_senders < 2 ^ 31)
    × (counted change.max_prepared < 2 ^ 31) × (counted change.max_locks < 2 ^ 31)

-- the settings of the last change of them
abbrev pub with_settings : Option ParameterChange → Control → Control
with_settings None control = control
with_settings (Some change) control = record control {
  walLevel = counted change.wal_level;
  walLogHints = change.wal_log_hints;
  maxConnections = counted change.max_connections;
  maxWorkers = counted change.max_workers;
  maxSenders = counted change.max_senders;
  maxPrepared = counted change.max_prepared;
  maxLocks = counted change.max_locks;
  trackCommitTs = change.track_commit_ts;
}

-- the control file behind a record
unfoldable pub control_after : LogRecord → PartsView → Control → Control
control_after rec parts control = with_settings (change_said rec parts) (with_checkpoint rec.start (checkpoint_said rec parts) control)

-- What a replay writes: the cluster is shut down in recovery, and consistent from the end of the log on, on the timeline that it had; no backup's
-- end is waited for.
unfoldable pub control_left : (tli end : ℕ) → Control → Control
control_left tli end control = record control {
  state = 2;
  minRecoveryPoint = end;
  minRecoveryPointTli = tli;
  backupStart = 0;
  backupEnd = 0;
  endRequired = 0;
}
