use Rattle.heap_tuples.proofs.HeapLemmas.{init_formed}
use Rattle.heap_tuples.proofs.heap.put_empty.Goals as goal

pub returns-clause-formed : goal.returns-clause-formed
returns-clause-formed c = rw c.put_init.ensures init_formed
