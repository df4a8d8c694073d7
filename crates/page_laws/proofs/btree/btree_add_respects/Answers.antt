use Rattle.page_laws.proofs.BtreeAdd.{add_keeps_page}
use Rattle.page_laws.proofs.btree.btree_add_respects.Goals as goal

pub returns-clause-page : goal.returns-clause-page
returns-clause-page c = add_keeps_page
