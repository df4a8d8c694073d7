use Rattle.btree_posting.proofs.DedupLemmas.{begun}
use Rattle.btree_posting.proofs.dedup.begin.Goals as goal

pub returns-clause-formed : goal.returns-clause-formed
returns-clause-formed c = rw (c.put_without_garbage.ensures, c.begin_anew.ensures.value) (begun c.args.page.now c.requires.page.size)
