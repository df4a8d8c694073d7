use Rattle.btree_posting.proofs.SplitLemmas.{new_size}
use Rattle.btree_posting.proofs.records.split_posting.Goals as goal

pub redo_split_posting-requires-clause-new : goal.redo_split_posting-requires-clause-new
redo_split_posting-requires-clause-new c = new_size c.in_ok-bytes.bytes.now c.in-Some-split_tuples.tuples c.in-Some-split_tuples.ensures.value
