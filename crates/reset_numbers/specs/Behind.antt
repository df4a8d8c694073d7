-- The segment that a reset writes: PostgreSQL 16, src/bin/pg_resetwal/pg_resetwal.c, main, FindEndOfXLOG. Own: "The numbers of a reset".
use Rattle.std.specs.Prelude.{ℕ, ◌/◌, if◌then◌else◌, List, Option, None, Some}
use Rattle.std.specs.Option.{option_and_then}
use Rattle.control_file.specs.declared.control.Control.{Control}
use Rattle.wal_base.specs.Segment.{bytes_of}
use Rattle.wal_base.specs.SizeOfBytes.{size_of_bytes}
use Rattle.wal_base.specs.declared.seg_size.SegSize.{SegSize}
use Rattle.wal_base.specs.declared.segment.Segment.{Segment}
use Rattle.reset_numbers.specs.Names.{given_number, greatest_named, is_past, next_number}
use Rattle.reset_numbers.specs.NewControl.{new_size, new_tli}
use Rattle.reset_numbers.specs.declared.options.ResetOptions.{ResetOptions}

-- the one behind the segment of this number and of so many bytes, or that is given
abbrev pub segment_behind : Option (ℕ × ℕ × ℕ) → (tli old : ℕ) → SegSize → ℕ → Option Segment
segment_behind given tli old size greatest =
    let number = next_number old (bytes_of size) greatest in
    if is_past (bytes_of size) given number then None else Some record {
      tli = new_tli given tli;
      number = given_number (bytes_of size) given number;
      size = size;
    }

-- the one behind all that the control file and these names tell, or that is given
abbrev pub segment_after : ResetOptions → Control → List (List ℕ) → SegSize → Option Segment
segment_after options old names size =
    segment_behind options.log old.cp.tli old.walSegSize size (greatest_named old.walSegSize (old.cp.redo / old.walSegSize) names)

-- `None` where what is given has no such number, or it would reach the position 2 ^ 63
unfoldable pub new_segment : ResetOptions → Control → List (List ℕ) → Option Segment
new_segment options old names = option_and_then (segment_after options old names) (size_of_bytes (new_size options old.walSegSize))
