use Rattle.page_laws.proofs.ItemKept.{pack_keeps}
use Rattle.page_laws.proofs.views.pack_keeps_items.Goals as goal

pub returns : goal.returns
returns c = pack_keeps
