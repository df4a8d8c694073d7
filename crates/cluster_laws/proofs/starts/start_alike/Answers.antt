use Rattle.cluster_laws.proofs.StartLemmas.{starts-as}
use Rattle.cluster_laws.proofs.starts.start_alike.Goals as goal

pub returns : goal.returns
returns g = λ custom per_file c d root other s both passes. starts-as custom per_file root other c d both s passes
