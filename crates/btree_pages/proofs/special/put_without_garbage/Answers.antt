use Rattle.btree_pages.specs.Special.{without_garbage}
use Rattle.btree_pages.proofs.SpecialLemmas.{written}
use Rattle.btree_pages.proofs.special.put_without_garbage.Goals as goal

pub returns : goal.returns
returns c = written without_garbage c.args.page.now c.clear_garbage.new.special c.clear_garbage.ensures.value c.clear_garbage.ensures.size
