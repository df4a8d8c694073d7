use Rattle.page_laws.proofs.BtreeShown.{btree_kind}
use Rattle.page_laws.proofs.btree.btree_kind.Goals as goal

pub returns : goal.returns
returns c = btree_kind
