-- The records of the target's log that are read, and what refuses them: PostgreSQL 16, src/bin/pg_rewind/parsexlog.c,
-- extractPageMap. Own: "Where the reading of the target's log ends".
use Rattle.std.specs.Prelude.{ℕ, ◌&&◌, List, [], ◌∷◌, ◌++◌, map, nat_lt, Option, None, Some, Result, Ok, Err, if◌then◌else◌}
use Rattle.std.specs.List.{flat_map, list_all, take_while}
use Rattle.cluster_tree.specs.Causes.{first_of}
use Rattle.wal_records.specs.Log.{Log}
use Rattle.wal_records.specs.Reading.{LogRecord}
use Rattle.block_refs.specs.Outcomes.{record_parts}
use Rattle.block_refs.specs.Parts.{PartsView}
use Rattle.block_refs.specs.declared.fault.PartsFault.{PartsFault}
use Rattle.touched_blocks.specs.Set.{TouchedView}
use Rattle.touched_blocks.specs.Touched.{names_in, names_of}
use Rattle.touched_blocks.specs.declared.fault.TouchFault.{TouchFault}
use Rattle.touched_blocks.specs.declared.named.Named.{Named}
use Rattle.log_walk.specs.declared.fault.LogWalkFault.{LogWalkFault}
use Rattle.log_walk.specs.declared.fault.LogWalkFault.TheVariants as fault
use Rattle.log_walk.specs.Faults.{parts_cause, touch_cause}
use Rattle.log_walk.specs.First.{at_lsn}

-- the records that start below the end
unfoldable pub needed : ℕ → Log → List LogRecord
needed end log = take_while (λ r. nat_lt r.start end) log.records

-- a record without parts is refused
abbrev pub parts_refusal : Result PartsView PartsFault → Option LogWalkFault
parts_refusal (Ok parts) = None
parts_refusal (Err e) = Some (parts_cause e)

-- so is one that changes relations in a way that isn't known
abbrev pub names_refusal : Result (List Named) TouchFault → Option LogWalkFault
names_refusal (Ok names) = None
names_refusal (Err e) = Some (touch_cause e)

abbrev pub special_refusal : LogRecord → Result PartsView PartsFault → Option LogWalkFault
special_refusal r (Ok parts) = names_refusal (names_of r parts)
special_refusal r (Err e) = None

-- and one that goes on past the end
abbrev pub end_refusal : ℕ → LogRecord → Option LogWalkFault
end_refusal end r = if nat_lt end r.end then Some (fault.EndNotRecord (at_lsn end) (at_lsn r.end)) else None

-- what refuses a record that is needed, in this order
unfoldable pub record_refusal : ℕ → LogRecord → Option LogWalkFault
record_refusal end r =
    first_of (parts_refusal (record_parts r) ∷ special_refusal r (record_parts r) ∷ end_refusal end r ∷ [])

-- the log ends before the end, at a place below it
abbrev pub ends_early : ℕ → Log → Option LogWalkFault
ends_early end log =
    if list_all (λ r. nat_lt r.start end) log.records && nat_lt log.place end
    then Some (fault.LogEnds (at_lsn log.place) log.why) else None

-- What refuses the reading of a log up to an end: the first of its records that is refused, and then that it ends early.
unfoldable pub read_refusal : ℕ → Log → Option LogWalkFault
read_refusal end log = first_of (map (record_refusal end) (needed end log) ++ ends_early end log ∷ [])

-- what records name, in their order
abbrev pub named_by : List LogRecord → List Named
named_by records = flat_map (λ r. names_in r (record_parts r)) records

-- a set without a block
abbrev pub nothing_touched : TouchedView
nothing_touched = record { chunks = []; cuts = []; databases = [] }
