use Rattle.btree_pages.specs.Special.{with_prev}
use Rattle.btree_pages.proofs.SpecialLemmas.{written}
use Rattle.btree_pages.proofs.special.redo_neighbour.Goals as goal

pub returns : goal.returns
returns c = written (with_prev c.args.right) c.args.page.now c.put_prev.new.special c.put_prev.ensures.value c.put_prev.ensures.size
