-- Why a log isn't found, or its dump is refused, as causes of a run. Own: "The line of a cause".
use Rattle.waldump_core.specs.declared.fault.DumpFault.{DumpFault}
use Rattle.waldump_core.specs.declared.fault.DumpFault.TheVariants as dump_fault
use Rattle.log_folder.specs.declared.fault.FolderFault.{FolderFault}
use Rattle.log_folder.specs.declared.fault.FolderFault.TheVariants as folder_fault
use Rattle.run_acts.specs.declared.cause.Cause.{Cause}
use Rattle.run_acts.specs.declared.cause.Cause.TheVariants as cause
use Rattle.run_acts.specs.declared.cause.LogCause.TheVariants as logs
use Rattle.run_acts.specs.declared.cause.PathCause.TheVariants as paths

-- the cause of why a log isn't found
abbrev pub folder_cause : FolderFault → Cause
folder_cause (folder_fault.NotFolder path) = cause.Paths (paths.NotFolder path)
folder_cause (folder_fault.Link path) = cause.Paths (paths.Link path)
folder_cause (folder_fault.NameNotText path) = cause.Paths (paths.NameNotText path)
folder_cause (folder_fault.NoWal folder) = cause.Log (logs.NoWal folder)
folder_cause (folder_fault.BadSegment file) = cause.Log (logs.BadSegment file)
folder_cause folder_fault.Usage = cause.Usage
folder_cause folder_fault.ReadFault = cause.ReadFault
folder_cause folder_fault.OutOfMemory = cause.OutOfMemory

-- the cause of why a dump is refused
abbrev pub dump_cause : DumpFault → Cause
dump_cause (dump_fault.NoRecordAt start) = cause.Log (logs.NoRecordAt start)
dump_cause (dump_fault.LogEnds place why) = cause.Log (logs.LogEnds place why)
dump_cause (dump_fault.BadParts start offset) = cause.Log (logs.BadParts start offset)
dump_cause (dump_fault.Compressed start id) = cause.Log (logs.Compressed start id)
dump_cause dump_fault.ReadFault = cause.ReadFault
dump_cause dump_fault.SinkFault = cause.SinkFault
dump_cause dump_fault.OutOfMemory = cause.OutOfMemory
