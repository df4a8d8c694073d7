-- Why a list isn't read. Own: "The list in a replay's mark".
use Rattle.std.specs.Prelude.{◌≡◌, ℕ, Result, Err}
use Rattle.replay_list.specs.declared.fault.ListFault.{ListFault}
use Rattle.replay_list.specs.declared.fault.ListFault.TheVariants.{BadLine, OutOfMemory}

-- the line that is at fault; or memory is wanting
abbrev pub IsFault : {A : Type 0} → Result A ℕ → ListFault → Type 0
IsFault meant (BadLine n) = meant ≡ Err n
IsFault meant OutOfMemory = Unit {0}
