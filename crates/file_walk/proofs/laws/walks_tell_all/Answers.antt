use Rattle.file_walk.proofs.StandLemmas.{tells-all}
use Rattle.file_walk.proofs.laws.walks_tell_all.Goals as goal

pub returns : goal.returns
returns c = tells-all
