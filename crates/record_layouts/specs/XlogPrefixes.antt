-- What is there of layouts of the manager XLOG that need not be whole: PostgreSQL 16, src/include/catalog/pg_control.h,
-- CheckPoint; src/include/access/xlog_internal.h, xl_parameter_change.
use Rattle.std.specs.Prelude.{ℕ, List}
use Rattle.record_layouts.specs.declared.xlog_prefixes.CheckpointPrefix.{CheckpointPrefix}
use Rattle.record_layouts.specs.declared.xlog_prefixes.ParameterPrefix.{ParameterPrefix}
use Rattle.record_layouts.specs.Fields.{byte_if, int_if}

-- PARAMETER_CHANGE
abbrev pub parameter_prefix_of : List ℕ → ParameterPrefix
parameter_prefix_of bytes = record {
  max_connections = int_if 0 bytes;
  max_workers = int_if 4 bytes;
  max_senders = int_if 8 bytes;
  max_prepared = int_if 12 bytes;
  max_locks = int_if 16 bytes;
  wal_level = int_if 20 bytes;
  wal_log_hints = byte_if 24 bytes;
  track_commit_ts = byte_if 25 bytes;
}

-- a checkpoint: whether full-page images are written
abbrev pub checkpoint_prefix_of : List ℕ → CheckpointPrefix
checkpoint_prefix_of bytes = record { fpw = byte_if 16 bytes }
