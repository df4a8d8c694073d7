-- The manager XLOG: PostgreSQL 16, src/include/catalog/pg_control.h, XLOG_..; src/include/access/xlog_internal.h.
use Rattle.std.specs.Prelude.{ℕ, List, ◌==◌, bit_and, if◌then◌else◌, Option, slice_range, Bool, true, is_some}
use Rattle.layout.specs.Readers.{u8_at, u32_at, i64_at}
use Rattle.control_file.specs.Reading.{checkpoint_of}
use Rattle.layout_readers.specs.Whole.{whole}
use Rattle.record_layouts.specs.Fields.{int_at, lsn_at}
use Rattle.record_layouts.specs.declared.xlog.RestorePoint.{RestorePoint}
use Rattle.record_layouts.specs.declared.xlog.XlogOp.{XlogOp}
use Rattle.record_layouts.specs.declared.xlog.XlogOp.TheVariants as op
use Rattle.record_layouts.specs.declared.xlog.NextOid.{NextOid}
use Rattle.record_layouts.specs.declared.xlog.BackupEnd.{BackupEnd}
use Rattle.record_layouts.specs.declared.xlog.ParameterChange.{ParameterChange}
use Rattle.record_layouts.specs.declared.xlog.FpwChange.{FpwChange}
use Rattle.record_layouts.specs.declared.xlog.EndOfRecovery.{EndOfRecovery}
use Rattle.record_layouts.specs.declared.xlog.OverwriteContrecord.{OverwriteContrecord}

-- the operation of a number
abbrev pub xlog_op_numbered : ℕ → XlogOp
xlog_op_numbered number =
    if number == 0x00 then op.CheckpointShutdown
    else if number == 0x10 then op.CheckpointOnline
    else if number == 0x20 then op.Noop
    else if number == 0x30 then op.NextOid
    else if number == 0x40 then op.Switch
    else if number == 0x50 then op.BackupEnd
    else if number == 0x60 then op.ParameterChange
    else if number == 0x70 then op.RestorePoint
    else if number == 0x80 then op.FpwChange
    else if number == 0x90 then op.EndOfRecovery
    else if number == 0xA0 then op.FpiForHint
    else if number == 0xB0 then op.Fpi
    else if number == 0xD0 then op.OverwriteContrecord
    else op.Unlisted number

-- the operation of `info`, without its low four bits
unfoldable pub xlog_op_of : ℕ → XlogOp
xlog_op_of info = xlog_op_numbered (bit_and info 0xF0)

-- the number of an operation
abbrev pub xlog_number : XlogOp → ℕ
xlog_number op.CheckpointShutdown = 0x00
xlog_number op.CheckpointOnline = 0x10
xlog_number op.Noop = 0x20
xlog_number op.NextOid = 0x30
xlog_number op.Switch = 0x40
xlog_number op.BackupEnd = 0x50
xlog_number op.ParameterChange = 0x60
xlog_number op.RestorePoint = 0x70
xlog_number op.FpwChange = 0x80
xlog_number op.EndOfRecovery = 0x90
xlog_number op.FpiForHint = 0xA0
xlog_number op.Fpi = 0xB0
xlog_number op.OverwriteContrecord = 0xD0
xlog_number (op.Unlisted number) = number

-- RESTORE_POINT: xl_restore_point, whose name has MAXFNAMELEN bytes, 64
abbrev pub restore_point_of : List ℕ → Option RestorePoint
restore_point_of bytes = whole 72 bytes record {
  time = i64_at 0 bytes;
  name = slice_range bytes 8 72;
}

-- NEXTOID, in src/backend/access/transam/xlog.c
abbrev pub next_oid_of : List ℕ → Option NextOid
next_oid_of bytes = whole 4 bytes record {
  oid = u32_at 0 bytes;
}

-- BACKUP_END, in src/backend/access/transam/xlog.c
abbrev pub backup_end_of : List ℕ → Option BackupEnd
backup_end_of bytes = whole 8 bytes record {
  start = lsn_at 0 bytes;
}

-- PARAMETER_CHANGE: xl_parameter_change
abbrev pub parameter_change_of : List ℕ → Option ParameterChange
parameter_change_of bytes = whole 26 bytes record {
  max_connections = int_at 0 bytes;
  max_workers = int_at 4 bytes;
  max_senders = int_at 8 bytes;
  max_prepared = int_at 12 bytes;
  max_locks = int_at 16 bytes;
  wal_level = int_at 20 bytes;
  wal_log_hints = u8_at 24 bytes;
  track_commit_ts = u8_at 25 bytes;
}

-- FPW_CHANGE, in src/backend/access/transam/xlog.c
abbrev pub fpw_change_of : List ℕ → Option FpwChange
fpw_change_of bytes = whole 1 bytes record {
  fpw = u8_at 0 bytes;
}

-- END_OF_RECOVERY: xl_end_of_recovery
abbrev pub end_of_recovery_of : List ℕ → Option EndOfRecovery
end_of_recovery_of bytes = whole 16 bytes record {
  time = i64_at 0 bytes;
  tli = u32_at 8 bytes;
  prev_tli = u32_at 12 bytes;
}

-- OVERWRITE_CONTRECORD: xl_overwrite_contrecord
abbrev pub overwrite_contrecord_of : List ℕ → Option OverwriteContrecord
overwrite_contrecord_of bytes = whole 16 bytes record {
  lsn = lsn_at 0 bytes;
  time = i64_at 8 bytes;
}

-- the main bytes hold the whole layout of an operation
abbrev pub xlog_is_whole : XlogOp → List ℕ → Bool
xlog_is_whole op.CheckpointShutdown main = is_some (checkpoint_of main)
xlog_is_whole op.CheckpointOnline main = is_some (checkpoint_of main)
xlog_is_whole op.Noop main = true
xlog_is_whole op.NextOid main = is_some (next_oid_of main)
xlog_is_whole op.Switch main = true
xlog_is_whole op.BackupEnd main = is_some (backup_end_of main)
xlog_is_whole op.ParameterChange main = is_some (parameter_change_of main)
xlog_is_whole op.RestorePoint main = is_some (restore_point_of main)
xlog_is_whole op.FpwChange main = is_some (fpw_change_of main)
xlog_is_whole op.EndOfRecovery main = is_some (end_of_recovery_of main)
xlog_is_whole op.FpiForHint main = true
xlog_is_whole op.Fpi main = true
xlog_is_whole op.OverwriteContrecord main = is_some (overwrite_contrecord_of main)
xlog_is_whole (op.Unlisted number) main = true
