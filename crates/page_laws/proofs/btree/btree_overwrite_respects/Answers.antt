use Rattle.page_laws.proofs.BtreeOverwrite.{overwrite_keeps_page}
use Rattle.page_laws.proofs.btree.btree_overwrite_respects.Goals as goal

pub returns-clause-page : goal.returns-clause-page
returns-clause-page c = overwrite_keeps_page
