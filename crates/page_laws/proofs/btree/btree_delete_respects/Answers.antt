use Rattle.page_laws.proofs.BtreeDelete.{delete_keeps_page}
use Rattle.page_laws.proofs.btree.btree_delete_respects.Goals as goal

pub returns-clause-page : goal.returns-clause-page
returns-clause-page c = delete_keeps_page
