-- The faults below a dump as its own.
use Rattle.wal_records.specs.declared.fault.LogFault.{LogFault}
use Rattle.wal_records.specs.declared.fault.LogFault.TheVariants as log_fault
use Rattle.block_refs.specs.declared.fault.PartsFault.{PartsFault}
use Rattle.block_refs.specs.declared.fault.PartsFault.TheVariants as parts_fault
use Rattle.waldump_core.specs.declared.fault.DumpFault.{DumpFault}
use Rattle.waldump_core.specs.declared.fault.DumpFault.TheVariants as fault

-- what keeps a log from being read
abbrev pub log_cause : LogFault → DumpFault
log_cause log_fault.ReadFault = fault.ReadFault
log_cause log_fault.OutOfMemory = fault.OutOfMemory

-- why a record has no parts
abbrev pub parts_cause : PartsFault → DumpFault
parts_cause (parts_fault.BadParts at offset) = fault.BadParts at offset
parts_cause (parts_fault.Compressed at id) = fault.Compressed at id
