-- The label that a rewind leaves: PostgreSQL 16, src/bin/pg_rewind/pg_rewind.c, createBackupLabel. Own: "The time of a label".
use Rattle.std.specs.Prelude.{ℕ, ◌/◌, List, [], ◌∷◌, ◌++◌, codes}
use Rattle.wal_base.specs.Lsn.{lsn_text}
use Rattle.wal_base.specs.Segment.{bytes_of, segment_name}
use Rattle.backup_label.specs.declared.label.Label.{Label}
use Rattle.backup_label.specs.declared.reading.LabelPlaces.{LabelPlaces}
use Rattle.backup_label.specs.Time.{label_time}

-- a text as a line, with its newline (10)
abbrev pub line : List ℕ → List ℕ
line text = text ++ 10 ∷ []

-- the segment file that holds the start, on the timeline of the checkpoint's record
abbrev pub start_file : Label → List ℕ
start_file label = segment_name (bytes_of label.size) label.tli (label.start.0 / bytes_of label.size)

unfoldable pub start_line : Label → List ℕ
start_line label = line (codes "START WAL LOCATION: " ++ (lsn_text label.start.0 ++ (codes " (file " ++ (start_file label ++ codes ")"))))

unfoldable pub checkpoint_line : Label → List ℕ
checkpoint_line label = line (codes "CHECKPOINT LOCATION: " ++ lsn_text label.checkpoint.0)

unfoldable pub other_lines : Label → List ℕ
other_lines label =
    line (codes "BACKUP METHOD: pg_rewind") ++ line (codes "BACKUP FROM: standby") ++ line (codes "START TIME: " ++ label_time label.time)

-- its five lines
unfoldable pub label_text : Label → List ℕ
label_text label = start_line label ++ (checkpoint_line label ++ other_lines label)

-- the two places that it names
abbrev pub places_of : Label → LabelPlaces
places_of label = record { start = label.start; checkpoint = label.checkpoint }
