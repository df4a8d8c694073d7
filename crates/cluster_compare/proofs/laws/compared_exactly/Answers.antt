use Rattle.cluster_compare.proofs.ExactLemmas.{compared-exactly}
use Rattle.cluster_compare.proofs.laws.compared_exactly.Goals as goal

pub returns : goal.returns
returns g = λ c per_file first second found there parts others walk other. compared-exactly c per_file first second found there parts others walk other
