use Rattle.cluster_laws.proofs.SameLemmas.{are-same}
use Rattle.cluster_laws.proofs.same.alike_are_same.Goals as goal

pub returns : goal.returns
returns g = λ root other per_file c d some both blocks. are-same root other per_file some c d both blocks
