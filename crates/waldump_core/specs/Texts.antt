-- How a dump ends, and what it leaves on a sink.
use Rattle.std.specs.Prelude.{ℕ, ◌≡◌, ◌⊎◌, Bool, true, false, List, take, length, Result, Ok, Err}
use Rattle.acts.specs.Acts.{Ending, Done, Refused, ReadFailed, SinkFailed, NoMemory}
use Rattle.waldump_core.specs.declared.dumped.Dumped.{Dumped}
use Rattle.waldump_core.specs.declared.fault.DumpFault.{DumpFault}
use Rattle.waldump_core.specs.declared.fault.DumpFault.TheVariants as fault

-- a fault of a device or want of memory, which may come at any point
abbrev pub IsFree : DumpFault → Type 0
IsFree e = (e ≡ fault.ReadFault) ⊎ (e ≡ fault.SinkFault) ⊎ (e ≡ fault.OutOfMemory)

-- what a call that only reads may answer at any point
abbrev pub IsOfReads : DumpFault → Type 0
IsOfReads e = (e ≡ fault.ReadFault) ⊎ (e ≡ fault.OutOfMemory)

-- a failed read
abbrev pub is_read : DumpFault → Bool
is_read (fault.NoRecordAt start) = false
is_read (fault.LogEnds place why) = false
is_read (fault.BadParts at offset) = false
is_read (fault.Compressed at id) = false
is_read fault.ReadFault = true
is_read fault.SinkFault = false
is_read fault.OutOfMemory = false

-- how a dump that answers a fault ends
abbrev pub ending_by : DumpFault → Ending
ending_by (fault.NoRecordAt start) = Refused
ending_by (fault.LogEnds place why) = Refused
ending_by (fault.BadParts at offset) = Refused
ending_by (fault.Compressed at id) = Refused
ending_by fault.ReadFault = ReadFailed
ending_by fault.SinkFault = SinkFailed
ending_by fault.OutOfMemory = NoMemory

-- how a dump ends
abbrev pub ending_of : Result Dumped DumpFault → Ending
ending_of (Ok dumped) = Done
ending_of (Err e) = ending_by e

-- what stood on a sink stays, and nothing stands before it
abbrev pub Extends : List ℕ → List ℕ → Type 0
Extends old new = take (length old) new ≡ old
