-- What records say of the control file: PostgreSQL 16, src/backend/access/transam/xlog.c, xlog_redo; src/include/catalog/pg_control.h,
-- XLOG_CHECKPOINT_SHUTDOWN, XLOG_CHECKPOINT_ONLINE and XLOG_PARAMETER_CHANGE.
use Rattle.std.specs.Prelude.{List, ℕ, Option, None}
use Rattle.block_refs.specs.Bytes.{main_bytes}
use Rattle.block_refs.specs.Parts.{PartsView}
use Rattle.control_file.specs.Reading.{checkpoint_of}
use Rattle.control_file.specs.declared.checkpoint.Checkpoint.{Checkpoint}
use Rattle.record_layouts.specs.Xlog.{parameter_change_of}
use Rattle.record_layouts.specs.declared.operation.Operation.{Operation}
use Rattle.record_layouts.specs.declared.operation.Operation.TheVariants as op
use Rattle.record_layouts.specs.declared.xlog.ParameterChange.{ParameterChange}
use Rattle.record_layouts.specs.declared.xlog.XlogOp.{XlogOp}
use Rattle.record_layouts.specs.declared.xlog.XlogOp.TheVariants as xlog
use Rattle.replay_profile.specs.Profile.{done_by}
use Rattle.wal_records.specs.Reading.{LogRecord}

abbrev pub checkpoint_by_xlog : XlogOp → List ℕ → Option Checkpoint
checkpoint_by_xlog xlog.CheckpointShutdown main = checkpoint_of main
checkpoint_by_xlog xlog.CheckpointOnline main = checkpoint_of main
checkpoint_by_xlog _ main = None

abbrev pub checkpoint_by : Operation → List ℕ → Option Checkpoint
checkpoint_by (op.Xlog o) main = checkpoint_by_xlog o main
checkpoint_by _ main = None

-- the checkpoint of a record, at a shutdown or any other one; none where its layout is short
abbrev pub checkpoint_said : LogRecord → PartsView → Option Checkpoint
checkpoint_said rec parts = checkpoint_by (done_by rec) (main_bytes rec.body parts)

abbrev pub change_by_xlog : XlogOp → List ℕ → Option ParameterChange
change_by_xlog xlog.ParameterChange main = parameter_change_of main
change_by_xlog _ main = None

abbrev pub change_by : Operation → List ℕ → Option ParameterChange
change_by (op.Xlog o) main = change_by_xlog o main
change_by _ main = None

-- the settings of a record that changes them
abbrev pub change_said : LogRecord → PartsView → Option ParameterChange
change_said rec parts = change_by (done_by rec) (main_bytes rec.body parts)
