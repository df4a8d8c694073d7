use Rattle.page_laws.proofs.ItemKept.{add_keeps}
use Rattle.page_laws.proofs.BtreeAdd.{insert_keeps}
use Rattle.page_laws.proofs.views.an_addition_keeps_the_others.Goals as goal

pub returns-clause-over : goal.returns-clause-over
returns-clause-over c = add_keeps

pub returns-clause-moved : goal.returns-clause-moved
returns-clause-moved c = insert_keeps
