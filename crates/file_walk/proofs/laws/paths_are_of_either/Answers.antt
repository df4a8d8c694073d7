use Rattle.file_walk.proofs.StandLemmas.{is-among}
use Rattle.file_walk.proofs.laws.paths_are_of_either.Goals as goal

pub returns : goal.returns
returns c = is-among
