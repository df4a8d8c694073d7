use Rattle.page_laws.proofs.HeapSteps.{head_keeps, edit_keeps, add_keeps_heap}
use Rattle.page_laws.proofs.laws.heap_steps_keep.Goals as goal

pub returns-clause-head : goal.returns-clause-head
returns-clause-head c = head_keeps

pub returns-clause-edit : goal.returns-clause-edit
returns-clause-edit c = edit_keeps

pub returns-clause-add : goal.returns-clause-add
returns-clause-add c = add_keeps_heap
