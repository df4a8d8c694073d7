-- What a caller is told of a record's parts.
use Rattle.std.specs.Prelude.{List, ◌≡◌, Result, Ok, Err, MatchResult}
use Rattle.wal_base.specs.declared.lsn.Lsn.{Lsn}
use Rattle.wal_records.specs.Reading.{LogRecord}
use Rattle.block_refs.specs.declared.fault.Flaw.{Flaw}
use Rattle.block_refs.specs.declared.fault.Flaw.TheVariants.{Bad, Compressed}
use Rattle.block_refs.specs.declared.fault.PartsFault.{PartsFault}
use Rattle.block_refs.specs.declared.fault.PartsFault.TheVariants as fault
use Rattle.block_refs.specs.declared.placed.Placed.{Placed}
use Rattle.block_refs.specs.declared.reading.Bounds.{Bounds}
use Rattle.block_refs.specs.Parts.{PartsView, parts_of}

-- a flaw of the record at a position
abbrev pub fault_of : Lsn → Flaw → PartsFault
fault_of start (Bad at) = fault.BadParts start at
fault_of start (Compressed id) = fault.Compressed start id

abbrev pub told : Lsn → Result PartsView Flaw → Result PartsView PartsFault
told start (Ok parts) = Ok parts
told start (Err flaw) = Err (fault_of start flaw)

-- where a record starts
abbrev pub start_of : LogRecord → Lsn
start_of rec = record { 0 = rec.start }

-- the parts of a record, or why it has none
abbrev pub record_parts : LogRecord → Result PartsView PartsFault
record_parts rec = told (start_of rec) (parts_of rec.body)

-- an answer that leaves its value in a place is this one
abbrev pub MeetsIn : {A : Type 0} → Result A PartsFault → A → Result (Unit {0}) PartsFault → Type 0
MeetsIn meant value result = MatchResult result (λ _. meant ≡ Ok value) (λ e. meant ≡ Err e)

-- parts with these bounds and blocks
abbrev pub parts_in : Bounds → List Placed → PartsView
parts_in bounds blocks = record { start = bounds.start; blocks = blocks; main = bounds.main }

-- the parts of a record at a position, of which the blocks are left in a place and the bounds are told
abbrev pub MeetsAt : Lsn → Result PartsView Flaw → List Placed → Result Bounds PartsFault → Type 0
MeetsAt start meant blocks result =
    MatchResult result (λ bounds. meant ≡ Ok (parts_in bounds blocks)) (λ e. told start meant ≡ Err e)
