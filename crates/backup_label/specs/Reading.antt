-- What a label says: PostgreSQL 16, src/backend/access/transam/xlogrecovery.c, read_backup_label. Own: "The form of a label".
use Rattle.std.specs.Prelude.{ℕ, ◌==◌, ◌&&◌, Bool, List, length, take, drop, codes, bytes_eq, nat_eq, slice_index, Option, None, Some, Result, Ok, Err, option_and_then, if◌then◌else◌}
use Rattle.std.specs.List.{after_first, before_first, list_any, starts_with}
use Rattle.memchr.specs.Find.{is_byte}
use Rattle.wal_base.specs.declared.lsn.Lsn.{Lsn}
use Rattle.wal_base.specs.Hex.{is_long_name}
use Rattle.wal_base.specs.Lsn.{lsn_of}
use Rattle.backup_label.specs.declared.fault.LabelFault.{LabelFault}
use Rattle.backup_label.specs.declared.fault.LabelFault.TheVariants as fault
use Rattle.backup_label.specs.declared.reading.LabelPlaces.{LabelPlaces}

-- a newline and a space
abbrev pub is_newline : ℕ → Bool
is_newline = is_byte 10

abbrev pub is_space : ℕ → Bool
is_space = is_byte 32

-- the first line, where a newline ends it
abbrev pub whole_line : List ℕ → Option (List ℕ)
whole_line bytes = if list_any is_newline bytes then Some (before_first is_newline bytes) else None

-- what stands behind this front of a text, if it has it
abbrev pub behind : List ℕ → List ℕ → Option (List ℕ)
behind front text = if bytes_eq (take (length front) text) front then Some (drop (length front) text) else None

-- `(file NAME)` with the name of a segment file, 24 digits
abbrev pub is_file : List ℕ → Bool
is_file text =
    length text == 31 && starts_with nat_eq text (codes "(file ") && is_long_name (take 24 (drop 6 text)) && (slice_index text 30 == 41)

-- a position, a space and a segment file, whichever that is
abbrev pub start_named : List ℕ → Option Lsn
start_named text = if is_file (after_first is_space text) then lsn_of (before_first is_space text) else None

-- where the first line says that the log is read from
unfoldable pub start_in : List ℕ → Option Lsn
start_in bytes = option_and_then start_named (option_and_then (behind (codes "START WAL LOCATION: ")) (whole_line bytes))

-- where a line says that the checkpoint's record starts
unfoldable pub checkpoint_in : List ℕ → Option Lsn
checkpoint_in bytes = option_and_then lsn_of (option_and_then (behind (codes "CHECKPOINT LOCATION: ")) (whole_line bytes))

abbrev pub with_places : Option Lsn → Option Lsn → Result LabelPlaces LabelFault
with_places None checkpoint = Err fault.Start
with_places (Some start) None = Err fault.Checkpoint
with_places (Some start) (Some checkpoint) = Ok (record { start = start; checkpoint = checkpoint })

-- by the first line and the second one
unfoldable pub label_of : List ℕ → Result LabelPlaces LabelFault
label_of bytes = with_places (start_in bytes) (checkpoint_in (after_first is_newline bytes))
