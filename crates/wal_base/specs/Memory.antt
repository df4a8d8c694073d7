-- Want of memory, the answer that no argument decides.
use Rattle.wal_base.specs.declared.memory.OutOfMemory.{OutOfMemory}

-- the one value of this error
abbrev pub out_of_memory : OutOfMemory
out_of_memory = record {}
