-- Texts of the manager XLOG: PostgreSQL 16, src/backend/access/rmgrdesc/xlogdesc.c, xlog_desc. Own: "Names and texts of operations".
use Rattle.std.specs.Prelude.{ℕ, ◌&&◌, List, [], ◌++◌, codes, decimal, map, nat_le, if◌then◌else◌}
use Rattle.std.specs.Fmt.{signed_decimal}
use Rattle.std.specs.List.{before_first}
use Rattle.wal_base.specs.Lsn.{lsn_text}
use Rattle.control_file.specs.Reading.{checkpoint_of}
use Rattle.record_layouts.specs.Fields.{is_zero}
use Rattle.record_layouts.specs.Xlog.{backup_end_of, end_of_recovery_of, fpw_change_of, next_oid_of, overwrite_contrecord_of, parameter_change_of, restore_point_of}
use Rattle.record_layouts.specs.declared.xlog.BackupEnd.{BackupEnd}
use Rattle.record_layouts.specs.declared.xlog.EndOfRecovery.{EndOfRecovery}
use Rattle.record_layouts.specs.declared.xlog.FpwChange.{FpwChange}
use Rattle.record_layouts.specs.declared.xlog.NextOid.{NextOid}
use Rattle.record_layouts.specs.declared.xlog.OverwriteContrecord.{OverwriteContrecord}
use Rattle.record_layouts.specs.declared.xlog.ParameterChange.{ParameterChange}
use Rattle.record_layouts.specs.declared.xlog.RestorePoint.{RestorePoint}
use Rattle.record_layouts.specs.declared.xlog.XlogOp.{XlogOp}
use Rattle.record_layouts.specs.declared.xlog.XlogOp.TheVariants as op
use Rattle.rmgr_desc.specs.Checkpoint.{checkpoint_text}
use Rattle.rmgr_desc.specs.Pieces.{or_short, switch_text}

-- NEXTOID
abbrev pub next_oid_text : NextOid → List ℕ
next_oid_text next = decimal next.oid

-- BACKUP_END
abbrev pub backup_end_text : BackupEnd → List ℕ
backup_end_text backup = lsn_text backup.start.0

-- settings that a standby has to know: how many processes there may be, what else is limited, what is on, and what the log
-- says
unfoldable pub processes_text : ParameterChange → List ℕ
processes_text p =
    codes "max_connections=" ++ (signed_decimal p.max_connections ++ (codes " max_worker_processes=" ++ (signed_decimal p.max_workers
    ++ (codes " max_wal_senders=" ++ signed_decimal p.max_senders))))

unfoldable pub limits_text : ParameterChange → List ℕ
limits_text p =
    codes "max_prepared_xacts=" ++ (signed_decimal p.max_prepared ++ (codes " max_locks_per_xact=" ++ signed_decimal p.max_locks))

unfoldable pub switches_text : ParameterChange → List ℕ
switches_text p =
    codes "wal_log_hints=" ++ (switch_text p.wal_log_hints ++ (codes " track_commit_timestamp=" ++ switch_text p.track_commit_ts))

unfoldable pub levels_text : ParameterChange → List ℕ
levels_text p = codes "wal_level=" ++ (signed_decimal p.wal_level ++ (codes " " ++ switches_text p))

-- PARAMETER_CHANGE
abbrev pub parameters_text : ParameterChange → List ℕ
parameters_text p = processes_text p ++ (codes " " ++ (limits_text p ++ (codes " " ++ levels_text p)))

-- a byte of a name: one that isn't printable ASCII shows as ?
abbrev pub shown : ℕ → ℕ
shown byte = if nat_le 0x20 byte && nat_le byte 0x7E then byte else 0x3F

-- RESTORE_POINT: its name, which ends before its first zero
abbrev pub restore_point_text : RestorePoint → List ℕ
restore_point_text point = map shown (before_first is_zero point.name)

-- FPW_CHANGE
abbrev pub fpw_text : FpwChange → List ℕ
fpw_text change = switch_text change.fpw

-- END_OF_RECOVERY
abbrev pub recovery_text : EndOfRecovery → List ℕ
recovery_text end = codes "tli " ++ (decimal end.tli ++ (codes "; prev tli " ++ decimal end.prev_tli))

-- OVERWRITE_CONTRECORD
abbrev pub overwrite_text : OverwriteContrecord → List ℕ
overwrite_text overwrite = codes "lsn " ++ lsn_text overwrite.lsn.0

-- the text of an operation with these main bytes
abbrev pub xlog_text : XlogOp → List ℕ → List ℕ
xlog_text op.CheckpointShutdown main = or_short (checkpoint_text (codes "shutdown")) (checkpoint_of main)
xlog_text op.CheckpointOnline main = or_short (checkpoint_text (codes "online")) (checkpoint_of main)
xlog_text op.Noop main = []
xlog_text op.NextOid main = or_short next_oid_text (next_oid_of main)
xlog_text op.Switch main = []
xlog_text op.BackupEnd main = or_short backup_end_text (backup_end_of main)
xlog_text op.ParameterChange main = or_short parameters_text (parameter_change_of main)
xlog_text op.RestorePoint main = or_short restore_point_text (restore_point_of main)
xlog_text op.FpwChange main = or_short fpw_text (fpw_change_of main)
xlog_text op.EndOfRecovery main = or_short recovery_text (end_of_recovery_of main)
xlog_text op.FpiForHint main = []
xlog_text op.Fpi main = []
xlog_text op.OverwriteContrecord main = or_short overwrite_text (overwrite_contrecord_of main)
xlog_text (op.Unlisted number) main = []
