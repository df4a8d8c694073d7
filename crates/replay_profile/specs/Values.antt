-- The values of checkpoints and of changed settings that replay takes: PostgreSQL 16, src/include/catalog/pg_control.h,
-- CheckPoint and ControlFileData; src/include/access/xlog.h, WalLevel. Own: "The profile of replay".
use Rattle.std.specs.Prelude.{ℕ, ℤ, pos, int_le, nat_le, ◌==◌, ◌&&◌, Bool, true, Option, Some, None}
use Rattle.record_layouts.specs.declared.xlog_prefixes.CheckpointPrefix.{CheckpointPrefix}
use Rattle.record_layouts.specs.declared.xlog_prefixes.ParameterPrefix.{ParameterPrefix}

-- what is there passes; what is missing isn't asked
abbrev pub passes : {A : Type 0} → (A → Bool) → Option A → Bool
passes test (Some value) = test value
passes test None = true

-- a flag
abbrev pub is_flag : ℕ → Bool
is_flag value = nat_le value 1

-- a flag that is set
abbrev pub is_set : ℕ → Bool
is_set value = value == 1

-- a number of connections or the like
abbrev pub is_count : ℤ → Bool
is_count value = int_le (pos 0) value

-- one of the three levels
abbrev pub is_level : ℤ → Bool
is_level value = int_le (pos 0) value && int_le value (pos 2)

-- of a checkpoint: whether full-page images are written is a flag
abbrev pub is_known_checkpoint : CheckpointPrefix → Bool
is_known_checkpoint cp = passes is_flag cp.fpw

-- of changed settings: what is counted
abbrev pub has_counts : ParameterPrefix → Bool
has_counts change =
    passes is_count change.max_connections && passes is_count change.max_workers && passes is_count change.max_senders
    && passes is_count change.max_prepared && passes is_count change.max_locks

-- .. and the others: hints are logged
abbrev pub has_modes : ParameterPrefix → Bool
has_modes change =
    passes is_level change.wal_level && passes is_set change.wal_log_hints && passes is_flag change.track_commit_ts

abbrev pub is_known_change : ParameterPrefix → Bool
is_known_change change = has_counts change && has_modes change
