-- The layout of a control file as a table: PostgreSQL 16, src/include/catalog/pg_control.h, ControlFileData and CheckPoint.
use Rattle.std.specs.Prelude.{ℕ, ◌+◌, ◌-◌, ◌^◌, List, [], ◌∷◌, ◌++◌}
use Rattle.layout.specs.Rows.{row}
use Rattle.layout.specs.declared.row.Row.{Row}
use Rattle.layout.specs.declared.rule.Rule.TheVariants.{Any, AtMost, Only, Between, PowerOfTwo}
use Rattle.layout.specs.declared.value.Value.TheVariants.{Byte, Word, Long, Signed, Raw}
use Rattle.control_file.specs.declared.checkpoint.Checkpoint.{Checkpoint}
use Rattle.control_file.specs.declared.control.Control.{Control}
use Rattle.control_file.specs.declared.field.Field.{Field}
use Rattle.control_file.specs.declared.field.Field.TheVariants as field

-- what the cluster is, and where its last checkpoint stands
unfoldable pub head_rows : Control → List (Row Field)
head_rows c =
    row field.Sysid 0 (Long c.sysid) Any ∷
    row field.Version 8 (Word c.version) Any ∷
    row field.Catalog 12 (Word c.catalog) Any ∷
    row field.State 16 (Word c.state) (AtMost 6) ∷
    row field.Time 24 (Signed c.time) Any ∷
    row field.CheckPoint 32 (Long c.checkPoint) Any ∷ []

-- the checkpoint copy that begins at this offset
unfoldable pub checkpoint_rows : ℕ → Checkpoint → List (Row Field)
checkpoint_rows at cp =
    row field.CpRedo at (Long cp.redo) Any ∷
    row field.CpTli (at + 8) (Word cp.tli) Any ∷
    row field.CpPrevTli (at + 12) (Word cp.prevTli) Any ∷
    row field.CpFpw (at + 16) (Byte cp.fpw) (AtMost 1) ∷
    row field.CpNextXid (at + 24) (Long cp.nextXid) Any ∷
    row field.CpNextOid (at + 32) (Word cp.nextOid) Any ∷
    row field.CpNextMulti (at + 36) (Word cp.nextMulti) Any ∷
    row field.CpNextMultiOffset (at + 40) (Word cp.nextMultiOffset) Any ∷
    row field.CpOldestXid (at + 44) (Word cp.oldestXid) Any ∷
    row field.CpOldestXidDb (at + 48) (Word cp.oldestXidDb) Any ∷
    row field.CpOldestMulti (at + 52) (Word cp.oldestMulti) Any ∷
    row field.CpOldestMultiDb (at + 56) (Word cp.oldestMultiDb) Any ∷
    row field.CpTime (at + 64) (Signed cp.time) Any ∷
    row field.CpOldestCommitTs (at + 72) (Word cp.oldestCommitTs) Any ∷
    row field.CpNewestCommitTs (at + 76) (Word cp.newestCommitTs) Any ∷
    row field.CpOldestActiveXid (at + 80) (Word cp.oldestActiveXid) Any ∷ []

-- how far a recovery has to go
unfoldable pub recovery_rows : Control → List (Row Field)
recovery_rows c =
    row field.UnloggedLsn 128 (Long c.unloggedLsn) Any ∷
    row field.MinRecoveryPoint 136 (Long c.minRecoveryPoint) Any ∷
    row field.MinRecoveryPointTli 144 (Word c.minRecoveryPointTli) Any ∷
    row field.BackupStart 152 (Long c.backupStart) Any ∷
    row field.BackupEnd 160 (Long c.backupEnd) Any ∷
    row field.EndRequired 168 (Byte c.endRequired) (AtMost 1) ∷ []

-- the settings that the log was written under
unfoldable pub setting_rows : Control → List (Row Field)
setting_rows c =
    row field.WalLevel 172 (Word c.walLevel) (AtMost 2) ∷
    row field.WalLogHints 176 (Byte c.walLogHints) (AtMost 1) ∷
    row field.MaxConnections 180 (Word c.maxConnections) (AtMost (2 ^ 31 - 1)) ∷
    row field.MaxWorkers 184 (Word c.maxWorkers) (AtMost (2 ^ 31 - 1)) ∷
    row field.MaxSenders 188 (Word c.maxSenders) (AtMost (2 ^ 31 - 1)) ∷
    row field.MaxPrepared 192 (Word c.maxPrepared) (AtMost (2 ^ 31 - 1)) ∷
    row field.MaxLocks 196 (Word c.maxLocks) (AtMost (2 ^ 31 - 1)) ∷
    row field.TrackCommitTs 200 (Byte c.trackCommitTs) (AtMost 1) ∷ []

-- what the server was built with; 4132D68700000000 are the bytes of the float 1234567.0
unfoldable pub build_rows : Control → List (Row Field)
build_rows c =
    row field.MaxAlign 204 (Word c.maxAlign) (Only 8) ∷
    row field.FloatFormat 208 (Long c.floatFormat) (Only 0x4132_D687_0000_0000) ∷
    row field.Blcksz 216 (Word c.blcksz) (Only 8192) ∷
    row field.Relseg 220 (Word c.relseg) (Between 1 131072) ∷
    row field.WalBlcksz 224 (Word c.walBlcksz) (Only 8192) ∷
    row field.WalSegSize 228 (Word c.walSegSize) (PowerOfTwo (2 ^ 20) (2 ^ 30)) ∷
    row field.NameLen 232 (Word c.nameLen) Any ∷
    row field.IndexKeys 236 (Word c.indexKeys) Any ∷
    row field.ToastChunk 240 (Word c.toastChunk) Any ∷
    row field.LoBlock 244 (Word c.loBlock) Any ∷
    row field.Float8ByVal 248 (Byte c.float8ByVal) (AtMost 1) ∷
    row field.ChecksumVersion 252 (Word c.checksumVersion) (AtMost 1) ∷
    row field.Nonce 256 (Raw c.nonce) Any ∷ []

-- the whole table, in ascending order of the offsets; the CRC of the bytes before it stands behind, at 288
unfoldable pub rows_of : Control → List (Row Field)
rows_of c = head_rows c ++ checkpoint_rows 40 c.cp ++ recovery_rows c ++ setting_rows c ++ build_rows c
