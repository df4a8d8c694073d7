-- The dump of a log, said of the list of its records: PostgreSQL 16 manual, reference page of pg_waldump; src/bin/pg_waldump/pg_waldump.c, main.
-- Own: "Where a dump begins and ends".
use Rattle.std.specs.Prelude.{ℕ, ◌==◌, ◌&&◌, Bool, true, false, not, is_ok, List, [], map, filter, length, take, nat_lt, nat_le, if◌then◌else◌, Option, None, Some, Result, Ok, Err}
use Rattle.std.specs.List.{list_all, take_while}
use Rattle.cluster_tree.specs.Causes.{first_of, unless}
use Rattle.wal_base.specs.declared.lsn.Lsn.{Lsn}
use Rattle.wal_pages.specs.Header.{page_of}
use Rattle.wal_records.specs.Extent.{behind_of}
use Rattle.wal_records.specs.Further.{Pages}
use Rattle.wal_records.specs.Log.{Log, end_after, log_of}
use Rattle.wal_records.specs.Reading.{LogRecord}
use Rattle.block_refs.specs.declared.fault.PartsFault.{PartsFault}
use Rattle.block_refs.specs.Outcomes.{record_parts}
use Rattle.block_refs.specs.Parts.{PartsView}
use Rattle.rmgr_hooks.specs.Custom.{Extension}
use Rattle.waldump_core.specs.declared.dumped.Dumped.{Dumped}
use Rattle.waldump_core.specs.declared.fault.DumpFault.{DumpFault}
use Rattle.waldump_core.specs.declared.fault.DumpFault.TheVariants as fault
use Rattle.waldump_core.specs.declared.selection.Selection.{Selection}
use Rattle.waldump_core.specs.Faults.{parts_cause}
use Rattle.waldump_core.specs.FirstPlace.{first_place}
use Rattle.waldump_core.specs.Line.{line_text}
use Rattle.waldump_core.specs.Lists.{is_empty, up_to}
use Rattle.waldump_core.specs.Selecting.{meets}

-- a dump: what it shows of each record that it shows, and its answer
pub record Dump : Type 0 where
  pub lines : List (List ℕ)
  pub answer : Result Dumped DumpFault

-- a record starts at or past the start (--start)
abbrev pub is_from : Selection → LogRecord → Bool
is_from sel r = not (nat_lt r.start sel.start.0)

-- a record's last byte lies before the stop (--end), where there is one: the position behind it is at most the stop
abbrev pub is_before : ℕ → Option Lsn → LogRecord → Bool
is_before size None r = true
is_before size (Some stop) r = nat_le (behind_of size r.start r.header.total) stop.0

abbrev pub has_parts : LogRecord → Bool
has_parts r = is_ok (record_parts r)

abbrev pub is_met : Selection → LogRecord → Result PartsView PartsFault → Bool
is_met sel r (Err e) = false
is_met sel r (Ok parts) = meets sel r parts

-- a record meets every filter that is given
abbrev pub is_selected : Selection → LogRecord → Bool
is_selected sel r = is_met sel r (record_parts r)

-- the records at or past the start
abbrev pub from_start : Selection → List LogRecord → List LogRecord
from_start sel records = filter (is_from sel) records

-- those of them before the first that doesn't lie before the stop
abbrev pub up_to_stop : ℕ → Selection → List LogRecord → List LogRecord
up_to_stop size sel records = take_while (is_before size sel.stop) (from_start sel records)

-- and those before the first of these that has no parts
abbrev pub readable : ℕ → Selection → List LogRecord → List LogRecord
readable size sel records = take_while has_parts (up_to_stop size sel records)

-- the first so many (--limit); 0 is no limit
abbrev pub within : ℕ → List LogRecord → List LogRecord
within limit records = if limit == 0 then records else take limit records

-- The records that a dump shows: of those that it can read, the first that are selected, up to the limit.
abbrev pub selected : ℕ → Selection → List LogRecord → List LogRecord
selected size sel records = within sel.limit (filter (is_selected sel) (readable size sel records))

-- The records that it walks over: those that it can read, up to the one that fills the limit.
abbrev pub walked : ℕ → Selection → List LogRecord → List LogRecord
walked size sel records = up_to sel.limit (is_selected sel) (readable size sel records)

abbrev pub line_with : Option Extension → Selection → LogRecord → Result PartsView PartsFault → List ℕ
line_with custom sel r (Err e) = []
line_with custom sel r (Ok parts) = line_text custom sel.details r parts

-- what a record shows: its line, and with the details those below it
abbrev pub line_of : Option Extension → Selection → LogRecord → List ℕ
line_of custom sel r = line_with custom sel r (record_parts r)

-- what is shown, in the order of the log; a quiet dump (--quiet) shows nothing
abbrev pub shown_lines : Option Extension → Selection → List LogRecord → List (List ℕ)
shown_lines custom sel records = if sel.quiet then [] else map (line_of custom sel) records

abbrev pub at_lsn : ℕ → Lsn
at_lsn at = record { 0 = at }

-- how many records it shows, or would if it weren't quiet, and where the last one ends that it walked over
abbrev pub told : ℕ → Selection → List LogRecord → Dumped
told size sel records = record {
  shown = length (selected size sel records);
  end = at_lsn (end_after sel.start.0 (walked size sel records));
}

-- so many fill the limit
abbrev pub fills : ℕ → ℕ → Bool
fills limit count = not (limit == 0) && count == limit

abbrev pub flaw_in : Result PartsView PartsFault → Option DumpFault
flaw_in (Ok parts) = None
flaw_in (Err e) = Some (parts_cause e)

-- why a record has no parts, if so
abbrev pub flaw_of : LogRecord → Option DumpFault
flaw_of r = flaw_in (record_parts r)

-- The answer. There has to be a record from the start on that lies before the stop. Where those that are shown fill the limit, no
-- further one counts; else the first record without parts before the stop refuses the dump, and so does the end of the log where no
-- record lies at the stop or past it.
unfoldable pub answer_of : ℕ → Selection → Log → Result Dumped DumpFault
answer_of size sel log =
    let done = told size sel log.records in
    if is_empty (up_to_stop size sel log.records) then Err (fault.NoRecordAt sel.start)
    else if fills sel.limit done.shown then Ok done
    else unless (first_of (map flaw_of (up_to_stop size sel log.records)))
    (if list_all (is_before size sel.stop) (from_start sel log.records) then Err (fault.LogEnds (at_lsn log.place) log.why) else Ok done)

-- the dump of these records
abbrev pub dump_of_log : Option Extension → ℕ → Selection → Log → Dump
dump_of_log custom size sel log = record { lines = shown_lines custom sel (selected size sel log.records); answer = answer_of size sel log }

-- the dump of the log from a place on
abbrev pub dump_from : Option Extension → Pages → ℕ → Selection → Option ℕ → Dump
dump_from custom pages size sel None = record { lines = []; answer = Err (fault.NoRecordAt sel.start) }
dump_from custom pages size sel (Some place) = dump_of_log custom size sel (log_of pages size place)

-- The dump of a log: from the first place on the page that holds the start.
abbrev pub dump_of : Option Extension → Pages → ℕ → Selection → Dump
dump_of custom pages size sel = dump_from custom pages size sel (first_place pages size (page_of sel.start.0))
