use Rattle.file_walk.proofs.InOrderLemmas.{walk_in_order}
use Rattle.rewind_core.proofs.walks.walk_below.Goals as goal

pub returns-in-Ok-clause-order : goal.returns-in-Ok-clause-order
returns-in-Ok-clause-order g c told = walk_in_order _ _ _ (c.in-Ok.ensures.exact told)
