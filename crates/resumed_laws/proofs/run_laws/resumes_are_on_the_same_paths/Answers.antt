use Rattle.resumed_laws.proofs.RunLemmas.{path-stays}
use Rattle.resumed_laws.proofs.run_laws.resumes_are_on_the_same_paths.Goals as goal

pub returns : goal.returns
returns g = λ found c i plan path sound between off. path-stays found c plan sound i between path off
