use Rattle.page_laws.proofs.BtreeSpecial.{special_respects, special_keeps}
use Rattle.page_laws.proofs.btree.btree_special_respects.Goals as goal

pub returns-clause-mask : goal.returns-clause-mask
returns-clause-mask c = special_respects

pub returns-clause-page : goal.returns-clause-page
returns-clause-page c = special_keeps
