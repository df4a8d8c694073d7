use Rattle.btree_pages.proofs.SpecialLemmas.{part_anew}
use Rattle.btree_pages.proofs.split_left.begin_anew.Goals as goal

pub returns-clause-formed : goal.returns-clause-formed
returns-clause-formed c = rw (c.put.ensures, c.put_init.ensures) (part_anew c.args.page.now c.requires.page.size)
