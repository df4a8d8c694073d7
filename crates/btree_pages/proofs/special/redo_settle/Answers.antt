use Rattle.btree_pages.specs.Special.{settled}
use Rattle.btree_pages.proofs.SpecialLemmas.{written}
use Rattle.btree_pages.proofs.special.redo_settle.Goals as goal

pub returns : goal.returns
returns c = written settled c.args.page.now c.settle.new.special c.settle.ensures.value c.settle.ensures.size
