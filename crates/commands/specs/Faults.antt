-- The faults of words. Own: "Answers and their causes".
use Rattle.std.specs.Prelude.{◌≡◌}
use Rattle.commands.specs.declared.fault.CommandFault.{CommandFault}
use Rattle.commands.specs.declared.fault.CommandFault.TheVariants as fault

-- want of memory, which may come at any point
abbrev pub IsFree : CommandFault → Type 0
IsFree e = e ≡ fault.OutOfMemory
