use Rattle.restart_laws.proofs.ListedLemmas.{may-begin}
use Rattle.restart_laws.proofs.laws.may_begin_again.Goals as goal

pub returns : goal.returns
returns g = λ custom root s listed c d x b begun stopped restored. may-begin custom root s listed c d begun x b stopped restored
