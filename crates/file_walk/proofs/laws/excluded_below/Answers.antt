use Rattle.file_walk.proofs.ExcludedLemmas.{excluded_more}
use Rattle.file_walk.proofs.laws.excluded_below.Goals as goal

pub returns : goal.returns
returns c = excluded_more
