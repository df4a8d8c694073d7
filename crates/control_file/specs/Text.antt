-- The text of a control file, line by line: PostgreSQL 16 manual, pg_controldata; src/bin/pg_controldata/pg_controldata.c.
use Rattle.std.specs.Prelude.{ℕ, ◌-◌, ◌/◌, ◌%◌, ◌^◌, ◌==◌, if◌then◌else◌, List, [], ◌∷◌, ◌++◌, length, replicate, get_or, codes, decimal}
use Rattle.std.specs.List.{concat}
use Rattle.hex.specs.Hex.{encode_lower}
use Rattle.wal_base.specs.Lsn.{lsn_text}
use Rattle.wal_base.specs.Segment.{segment_name}
use Rattle.control_file.specs.Names.{state_names, wal_level_names}
use Rattle.control_file.specs.Time.{time_text}
use Rattle.control_file.specs.declared.checkpoint.Checkpoint.{Checkpoint}
use Rattle.control_file.specs.declared.control.Control.{Control}

-- a line: its label, spaces up to column 38, its value from column 39 on
unfoldable pub line : List ℕ → List ℕ → List ℕ
line label value = label ++ replicate (38 - length label) 32 ++ value ++ 10 ∷ []

-- a field that is 0 or 1
abbrev pub on_off : ℕ → List ℕ
on_off n = if n == 0 then codes "off" else codes "on"

abbrev pub yes_no : ℕ → List ℕ
yes_no n = if n == 0 then codes "no" else codes "yes"

abbrev pub passing : ℕ → List ℕ
passing n = if n == 0 then codes "by reference" else codes "by value"

-- a transaction id with its epoch
abbrev pub xid_text : ℕ → List ℕ
xid_text n = decimal (n / 2 ^ 32) ++ codes ":" ++ decimal (n % 2 ^ 32)

-- what the cluster is, and where its last checkpoint stands
unfoldable pub head_lines : Control → List (List ℕ)
head_lines c =
    line (codes "pg_control version number:") (decimal c.version) ∷
    line (codes "Catalog version number:") (decimal c.catalog) ∷
    line (codes "Database system identifier:") (decimal c.sysid) ∷
    line (codes "Database cluster state:") (get_or state_names c.state []) ∷
    line (codes "pg_control last modified:") (time_text c.time) ∷
    line (codes "Latest checkpoint location:") (lsn_text c.checkPoint) ∷
    line (codes "Latest checkpoint's REDO location:") (lsn_text c.cp.redo) ∷ []

-- the log's file that holds the REDO location, on the checkpoint's timeline
unfoldable pub redo_file_line : Control → List ℕ
redo_file_line c =
    line (codes "Latest checkpoint's REDO WAL file:") (segment_name c.walSegSize c.cp.tli (c.cp.redo / c.walSegSize))

-- the last checkpoint
unfoldable pub checkpoint_lines : Checkpoint → List (List ℕ)
checkpoint_lines cp =
    line (codes "Latest checkpoint's TimeLineID:") (decimal cp.tli) ∷
    line (codes "Latest checkpoint's PrevTimeLineID:") (decimal cp.prevTli) ∷
    line (codes "Latest checkpoint's full_page_writes:") (on_off cp.fpw) ∷
    line (codes "Latest checkpoint's NextXID:") (xid_text cp.nextXid) ∷
    line (codes "Latest checkpoint's NextOID:") (decimal cp.nextOid) ∷
    line (codes "Latest checkpoint's NextMultiXactId:") (decimal cp.nextMulti) ∷
    line (codes "Latest checkpoint's NextMultiOffset:") (decimal cp.nextMultiOffset) ∷ []

-- the oldest and newest ids that it knows
unfoldable pub oldest_lines : Checkpoint → List (List ℕ)
oldest_lines cp =
    line (codes "Latest checkpoint's oldestXID:") (decimal cp.oldestXid) ∷
    line (codes "Latest checkpoint's oldestXID's DB:") (decimal cp.oldestXidDb) ∷
    line (codes "Latest checkpoint's oldestActiveXID:") (decimal cp.oldestActiveXid) ∷
    line (codes "Latest checkpoint's oldestMultiXid:") (decimal cp.oldestMulti) ∷
    line (codes "Latest checkpoint's oldestMulti's DB:") (decimal cp.oldestMultiDb) ∷
    line (codes "Latest checkpoint's oldestCommitTsXid:") (decimal cp.oldestCommitTs) ∷
    line (codes "Latest checkpoint's newestCommitTsXid:") (decimal cp.newestCommitTs) ∷
    line (codes "Time of latest checkpoint:") (time_text cp.time) ∷ []

-- how far a recovery has to go
unfoldable pub recovery_lines : Control → List (List ℕ)
recovery_lines c =
    line (codes "Fake LSN counter for unlogged rels:") (lsn_text c.unloggedLsn) ∷
    line (codes "Minimum recovery ending location:") (lsn_text c.minRecoveryPoint) ∷
    line (codes "Min recovery ending loc's timeline:") (decimal c.minRecoveryPointTli) ∷
    line (codes "Backup start location:") (lsn_text c.backupStart) ∷
    line (codes "Backup end location:") (lsn_text c.backupEnd) ∷
    line (codes "End-of-backup record required:") (yes_no c.endRequired) ∷ []

-- the settings that the log was written under
unfoldable pub setting_lines : Control → List (List ℕ)
setting_lines c =
    line (codes "wal_level setting:") (get_or wal_level_names c.walLevel []) ∷
    line (codes "wal_log_hints setting:") (on_off c.walLogHints) ∷
    line (codes "max_connections setting:") (decimal c.maxConnections) ∷
    line (codes "max_worker_processes setting:") (decimal c.maxWorkers) ∷
    line (codes "max_wal_senders setting:") (decimal c.maxSenders) ∷
    line (codes "max_prepared_xacts setting:") (decimal c.maxPrepared) ∷
    line (codes "max_locks_per_xact setting:") (decimal c.maxLocks) ∷
    line (codes "track_commit_timestamp setting:") (on_off c.trackCommitTs) ∷ []

-- the sizes that the server was built with
unfoldable pub size_lines : Control → List (List ℕ)
size_lines c =
    line (codes "Maximum data alignment:") (decimal c.maxAlign) ∷
    line (codes "Database block size:") (decimal c.blcksz) ∷
    line (codes "Blocks per segment of large relation:") (decimal c.relseg) ∷
    line (codes "WAL block size:") (decimal c.walBlcksz) ∷
    line (codes "Bytes per WAL segment:") (decimal c.walSegSize) ∷
    line (codes "Maximum length of identifiers:") (decimal c.nameLen) ∷
    line (codes "Maximum columns in an index:") (decimal c.indexKeys) ∷
    line (codes "Maximum size of a TOAST chunk:") (decimal c.toastChunk) ∷
    line (codes "Size of a large-object chunk:") (decimal c.loBlock) ∷ []

-- how it stores values
unfoldable pub storage_lines : Control → List (List ℕ)
storage_lines c =
    line (codes "Date/time type storage:") (codes "64-bit integers") ∷
    line (codes "Float8 argument passing:") (passing c.float8ByVal) ∷
    line (codes "Data page checksum version:") (decimal c.checksumVersion) ∷
    line (codes "Mock authentication nonce:") (encode_lower c.nonce) ∷ []

-- a text with more lines behind it
abbrev pub with_lines : List ℕ → List (List ℕ) → List ℕ
with_lines text [] = text
with_lines text (more ∷ lines) = with_lines (text ++ more) lines

-- all lines, in order
unfoldable pub lines_of : Control → List (List ℕ)
lines_of c =
    head_lines c ++ redo_file_line c ∷ checkpoint_lines c.cp ++ oldest_lines c.cp ++ recovery_lines c ++ setting_lines c
    ++ size_lines c ++ storage_lines c

-- the text
unfoldable pub control_text_of : Control → List ℕ
control_text_of control = concat (lines_of control)
