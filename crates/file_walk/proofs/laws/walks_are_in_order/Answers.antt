use Rattle.file_walk.proofs.InOrderLemmas.{walk_in_order}
use Rattle.file_walk.proofs.laws.walks_are_in_order.Goals as goal

pub returns : goal.returns
returns c = walk_in_order
