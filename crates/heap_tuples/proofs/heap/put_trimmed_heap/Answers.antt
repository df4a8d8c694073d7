use Rattle.heap_tuples.proofs.HeapLemmas.{heap_of, trimmed_formed}
use Rattle.heap_tuples.proofs.heap.put_trimmed_heap.Goals as goal

pub put_trimmed-requires-clause-head : goal.put_trimmed-requires-clause-head
put_trimmed-requires-clause-head c = let h = heap_of c.args.page.now c.requires.size c.requires.heap in h.head

pub returns-clause-formed : goal.returns-clause-formed
returns-clause-formed c = rw c.put_trimmed.ensures (trimmed_formed c.args.page.now (heap_of c.args.page.now c.requires.size c.requires.heap))
