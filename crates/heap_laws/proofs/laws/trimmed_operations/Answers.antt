use Rattle.heap_laws.proofs.Door.{trimmed_operation}
use Rattle.heap_laws.proofs.laws.trimmed_operations.Goals as goal

pub returns : goal.returns
returns c = trimmed_operation
