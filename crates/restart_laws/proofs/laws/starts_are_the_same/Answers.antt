use Rattle.restart_laws.proofs.BegunLemmas.{starts-same}
use Rattle.restart_laws.proofs.laws.starts_are_the_same.Goals as goal

pub returns : goal.returns
returns g = λ custom root s listed c d x b begun stopped restored. starts-same custom root s listed c d begun x b stopped restored
