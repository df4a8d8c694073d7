-- From where to where a log is shown, and on which timeline: PostgreSQL 16 manual, reference page of pg_waldump (STARTSEG, ENDSEG,
-- --start, --end, --timeline); src/bin/pg_waldump/pg_waldump.c, main. Own: "The bounds of a dump".
use Rattle.std.specs.Prelude.{ℕ, ◌+◌, ◌^◌, ◌==◌, ◌&&◌, Bool, true, nat_lt, nat_le, if◌then◌else◌, List, Option, None, Some, Result, Ok, Err, unwrap_or}
use Rattle.cluster_tree.specs.Causes.{given}
use Rattle.wal_base.specs.Segment.{bytes_of, segment_named, start_of}
use Rattle.wal_base.specs.declared.lsn.Lsn.{Lsn}
use Rattle.wal_base.specs.declared.seg_size.SegSize.{SegSize}
use Rattle.wal_base.specs.declared.segment.Segment.{Segment}
use Rattle.commands.specs.declared.waldump.DumpWords.{DumpWords}
use Rattle.log_folder.specs.declared.bounds.Bounds.{Bounds}
use Rattle.log_folder.specs.declared.bounds.Stretch.{Stretch}
use Rattle.log_folder.specs.declared.fault.FolderFault.{FolderFault}
use Rattle.log_folder.specs.declared.fault.FolderFault.TheVariants as fault

abbrev pub lsn_at : ℕ → Lsn
lsn_at at = record { 0 = at }

-- an end, where the log goes on behind it: positions are below 2 ^ 64
unfoldable pub end_at : ℕ → Option Lsn
end_at end = if nat_lt end (2 ^ 64) then Some (lsn_at end) else None

-- what a segment holds of the log
unfoldable pub stretch_of : Segment → Stretch
stretch_of segment =
    record { tli = segment.tli; start = start_of segment; end = end_at ((start_of segment).0 + bytes_of segment.size) }

abbrev pub stretch_or : Option Segment → Result Stretch FolderFault
stretch_or None = Err fault.Usage
stretch_or (Some segment) = Ok (stretch_of segment)

-- what the segment of this size and name holds
unfoldable pub stretch_named : SegSize → List ℕ → Result Stretch FolderFault
stretch_named size name = stretch_or (segment_named size name)

abbrev pub some_stretch : Stretch → Result (Option Stretch) FolderFault
some_stretch stretch = Ok (Some stretch)

-- what STARTSEG or ENDSEG holds, where it is given
abbrev pub stretch_given : SegSize → Option (List ℕ) → Result (Option Stretch) FolderFault
stretch_given size None = Ok None
stretch_given size (Some name) = given (stretch_named size name) some_stretch

-- a position lies before an end
abbrev pub is_before : ℕ → Option Lsn → Bool
is_before at None = true
is_before at (Some end) = nat_lt at end.0

-- -s lies in STARTSEG
unfoldable pub holds_start : Option Stretch → Option Lsn → Bool
holds_start (Some first) (Some start) = nat_le first.start.0 start.0 && is_before start.0 first.end
holds_start (Some first) None = true
holds_start None start = true

-- ENDSEG is on the timeline of STARTSEG, and not below it
unfoldable pub goes_on : Option Stretch → Option Stretch → Bool
goes_on (Some first) (Some last) = (last.tli == first.tli) && nat_le first.start.0 last.start.0
goes_on (Some first) None = true
goes_on None last = true

-- the start: -s, else that of STARTSEG
unfoldable pub start_from : Option Stretch → Option Lsn → Result Lsn FolderFault
start_from first (Some start) = Ok start
start_from (Some first) None = Ok first.start
start_from None None = Err fault.Usage

-- the stop: -e, else the end of ENDSEG, else that of STARTSEG
unfoldable pub stop_at : Option Stretch → Option Stretch → Option Lsn → Option Lsn
stop_at first last (Some stop) = Some stop
stop_at first (Some last) None = last.end
stop_at (Some first) None None = first.end
stop_at None None None = None

-- the timeline: that of STARTSEG, else -t, else 1
unfoldable pub timeline_of : Option Stretch → Option ℕ → ℕ
timeline_of (Some first) given = first.tli
timeline_of None given = unwrap_or given 1

-- the bounds, unless the segments and -s break a rule
unfoldable pub bounds_in : Option Stretch → Option Stretch → DumpWords → Result Bounds FolderFault
bounds_in first last words =
    if holds_start first words.start && goes_on first last
    then given (start_from first words.start) (λ start. Ok (record { tli = timeline_of first words.timeline; start = start; stop = stop_at first last words.stop }))
    else Err fault.Usage

-- the bounds that the words give, where segments have this size
unfoldable pub bounds_of : SegSize → DumpWords → Result Bounds FolderFault
bounds_of size words =
    given (stretch_given size words.first) (λ first.
    given (stretch_given size words.last) (λ last.
    bounds_in first last words))
