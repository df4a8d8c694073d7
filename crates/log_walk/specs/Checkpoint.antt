-- Checkpoint records: PostgreSQL 16, src/include/catalog/pg_control.h, XLOG_CHECKPOINT_SHUTDOWN and XLOG_CHECKPOINT_ONLINE.
use Rattle.std.specs.Prelude.{Bool, true, false, length, Option, None, Some, Result, Ok, Err}
use Rattle.cluster_tree.specs.Causes.{given}
use Rattle.control_file.specs.Reading.{checkpoint_of}
use Rattle.control_file.specs.declared.checkpoint.Checkpoint.{Checkpoint}
use Rattle.wal_records.specs.Reading.{LogRecord}
use Rattle.block_refs.specs.Bytes.{main_bytes}
use Rattle.block_refs.specs.Outcomes.{record_parts, start_of}
use Rattle.block_refs.specs.Parts.{PartsView}
use Rattle.block_refs.specs.declared.fault.PartsFault.{PartsFault}
use Rattle.record_layouts.specs.declared.operation.Operation.{Operation}
use Rattle.record_layouts.specs.declared.operation.Operation.TheVariants as op
use Rattle.record_layouts.specs.declared.xlog.XlogOp.{XlogOp}
use Rattle.record_layouts.specs.declared.xlog.XlogOp.TheVariants as xlog
use Rattle.touched_blocks.specs.Touched.{operation_in}
use Rattle.log_walk.specs.declared.checkpoint.CommonCheckpoint.{CommonCheckpoint}
use Rattle.log_walk.specs.declared.fault.LogWalkFault.{LogWalkFault}
use Rattle.log_walk.specs.declared.fault.LogWalkFault.TheVariants as fault
use Rattle.log_walk.specs.Faults.{parts_cause}

abbrev pub is_checkpoint_op : XlogOp → Bool
is_checkpoint_op xlog.CheckpointShutdown = true
is_checkpoint_op xlog.CheckpointOnline = true
is_checkpoint_op o = false

abbrev pub is_checkpoint_in : Operation → Bool
is_checkpoint_in (op.Xlog o) = is_checkpoint_op o
is_checkpoint_in o = false

-- a checkpoint at a shutdown, or any other one
abbrev pub is_checkpoint : LogRecord → Bool
is_checkpoint r = is_checkpoint_in (operation_in r)

-- the parts of a record, or its first flaw
abbrev pub parts_or : Result PartsView PartsFault → Result PartsView LogWalkFault
parts_or (Ok parts) = Ok parts
parts_or (Err e) = Err (parts_cause e)

-- a checkpoint where the main bytes were enough for one; else the flaw stands where the body ends
abbrev pub checkpoint_or : LogRecord → Option Checkpoint → Result CommonCheckpoint LogWalkFault
checkpoint_or r None = Err (fault.BadParts (start_of r) (length r.body))
checkpoint_or r (Some checkpoint) = Ok record { start = start_of r; checkpoint = checkpoint }

-- what a checkpoint record says
unfoldable pub checkpoint_in : LogRecord → Result CommonCheckpoint LogWalkFault
checkpoint_in r =
    given (parts_or (record_parts r)) (λ parts. checkpoint_or r (checkpoint_of (main_bytes r.body parts)))
