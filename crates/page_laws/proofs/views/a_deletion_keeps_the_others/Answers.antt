use Rattle.page_laws.proofs.ItemKept.{loses_item}
use Rattle.page_laws.proofs.views.a_deletion_keeps_the_others.Goals as goal

pub returns : goal.returns
returns c = loses_item
