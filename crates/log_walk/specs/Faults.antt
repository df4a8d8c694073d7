-- The faults below a walk as its own.
use Rattle.std.specs.Prelude.{◌≡◌, ◌⊎◌}
use Rattle.block_refs.specs.declared.fault.PartsFault.{PartsFault}
use Rattle.block_refs.specs.declared.fault.PartsFault.TheVariants as parts_fault
use Rattle.touched_blocks.specs.declared.fault.TouchFault.{TouchFault}
use Rattle.touched_blocks.specs.declared.fault.TouchFault.TheVariants as touch_fault
use Rattle.wal_records.specs.declared.fault.LogFault.{LogFault}
use Rattle.wal_records.specs.declared.fault.LogFault.TheVariants as log_fault
use Rattle.log_walk.specs.declared.fault.LogWalkFault.{LogWalkFault}
use Rattle.log_walk.specs.declared.fault.LogWalkFault.TheVariants as fault

-- what keeps a log from being read
abbrev pub log_cause : LogFault → LogWalkFault
log_cause log_fault.ReadFault = fault.ReadFault
log_cause log_fault.OutOfMemory = fault.OutOfMemory

-- why a record has no parts
abbrev pub parts_cause : PartsFault → LogWalkFault
parts_cause (parts_fault.BadParts at offset) = fault.BadParts at offset
parts_cause (parts_fault.Compressed at id) = fault.Compressed at id

-- why the names of a record aren't added
abbrev pub touch_cause : TouchFault → LogWalkFault
touch_cause (touch_fault.UnknownSpecial at manager info) = fault.UnknownSpecial at manager info
touch_cause touch_fault.OutOfMemory = fault.OutOfMemory

-- a device's fault, or want of memory
abbrev pub IsFree : LogWalkFault → Type 0
IsFree e = (e ≡ fault.ReadFault) ⊎ (e ≡ fault.OutOfMemory)

-- want of memory alone
abbrev pub IsMemory : LogWalkFault → Type 0
IsMemory e = e ≡ fault.OutOfMemory
