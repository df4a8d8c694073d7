-- The bytes of a control file: PostgreSQL 16, src/include/catalog/pg_control.h; zeros where no field is.
use Rattle.std.specs.Prelude.{ℕ, List, take, replicate}
use Rattle.layout.specs.Splice.{splice}
use Rattle.layout.specs.Writing.{laid, value_bytes}
use Rattle.layout.specs.declared.value.Value.TheVariants.{Word}
use Rattle.wal_base.specs.Crc.{crc32c}
use Rattle.control_file.specs.Rows.{rows_of, checkpoint_rows}
use Rattle.control_file.specs.declared.checkpoint.Checkpoint.{Checkpoint}
use Rattle.control_file.specs.declared.control.Control.{Control}

-- with the CRC of the first 288 bytes behind them
unfoldable pub sealed : List ℕ → List ℕ
sealed bytes = splice bytes 288 (value_bytes (Word (crc32c (take 288 bytes))))

-- the 8192 bytes of a control file
unfoldable pub control_bytes : Control → List ℕ
control_bytes control = sealed (laid (rows_of control) (replicate 8192 0))

-- the 88 bytes of a checkpoint copy
unfoldable pub checkpoint_bytes : Checkpoint → List ℕ
checkpoint_bytes cp = laid (checkpoint_rows 0 cp) (replicate 88 0)
