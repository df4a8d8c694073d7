-- Where the reading of a log stands.
use Rattle.std.specs.Prelude.{List}
use Rattle.cluster_tree.specs.Contents.{Contents}
use Rattle.replay_start.specs.Steps.{IsFurther}
use Rattle.replay_start.specs.declared.checked.Checked.{Checked}
use Rattle.restart_start.specs.declared.gather.Turn.{Turn}
use Rattle.restart_start.specs.declared.gather.Turn.TheVariants.{More, Done}
use Rattle.wal_base.specs.Segment.{bytes_of}
use Rattle.wal_records.specs.Cursor.{CursorView}
use Rattle.wal_records.specs.Further.{pages_of}
use Rattle.wal_records.specs.Log.{log_of}
use Rattle.wal_records.specs.Reading.{LogRecord}

-- behind a record the cursor stands further on
abbrev pub MovesOn : CursorView → CursorView → Turn → Type 0
MovesOn old new More = IsFurther old new
MovesOn old new Done = Unit {0}

-- the records of a cluster that was checked, from its label's start on
abbrev pub records_from : Checked → Contents → List LogRecord
records_from checked c = (log_of (pages_of checked.cursor.log c) (bytes_of checked.cursor.log.size) checked.label.start.0).records
