-- What a reader of names and values gives where the layout is whole: those of the layout.
use Rattle.std.specs.Prelude.{Some}
use Rattle.control_file.specs.declared.checkpoint.Checkpoint.{Checkpoint}
use Rattle.record_layouts.specs.declared.database.DatabaseCreate.{DatabaseCreate}
use Rattle.record_layouts.specs.declared.database.DatabaseCreatePrefix.{DatabaseCreatePrefix}
use Rattle.record_layouts.specs.declared.database.DatabaseDrop.{DatabaseDrop}
use Rattle.record_layouts.specs.declared.database.DatabaseDropPrefix.{DatabaseDropPrefix}
use Rattle.record_layouts.specs.declared.xlog.ParameterChange.{ParameterChange}
use Rattle.record_layouts.specs.declared.xlog_prefixes.CheckpointPrefix.{CheckpointPrefix}
use Rattle.record_layouts.specs.declared.xlog_prefixes.ParameterPrefix.{ParameterPrefix}

-- every setting of a PARAMETER_CHANGE
abbrev pub parameters_there : ParameterChange → ParameterPrefix
parameters_there change = record {
  max_connections = Some change.max_connections;
  max_workers = Some change.max_workers;
  max_senders = Some change.max_senders;
  max_prepared = Some change.max_prepared;
  max_locks = Some change.max_locks;
  wal_level = Some change.wal_level;
  wal_log_hints = Some change.wal_log_hints;
  track_commit_ts = Some change.track_commit_ts;
}

-- of a checkpoint, whether full-page images are written
abbrev pub checkpoint_there : Checkpoint → CheckpointPrefix
checkpoint_there cp = record { fpw = Some cp.fpw }

-- both names of a CREATE_WAL_LOG, and all of a DROP
abbrev pub created_there : DatabaseCreate → DatabaseCreatePrefix
created_there create = record { database = Some create.database; space = Some create.space }

abbrev pub dropped_there : DatabaseDrop → DatabaseDropPrefix
dropped_there drop = record { database = Some drop.database; spaces = drop.spaces }
