use Rattle.log_walk.proofs.BackLemmas.{walk_next}
use Rattle.log_walk.proofs.laws.walk_goes_on.Goals as goal

pub returns : goal.returns
returns c = walk_next
