use Rattle.page_laws.proofs.BtreeAnew.{anew_respects, anew_page, init_page}
use Rattle.page_laws.proofs.btree.btree_init_respects.Goals as goal

pub returns-clause-mask : goal.returns-clause-mask
returns-clause-mask c = anew_respects

pub returns-clause-page : goal.returns-clause-page
returns-clause-page c = anew_page

pub returns-clause-empty : goal.returns-clause-empty
returns-clause-empty c = init_page
