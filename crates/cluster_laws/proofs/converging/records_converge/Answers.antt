use Rattle.cluster_laws.proofs.ConvergeLemmas.{converge}
use Rattle.cluster_laws.proofs.converging.records_converge.Goals as goal

pub returns : goal.returns
returns g = λ custom sound base start redo records root other per_file w x taken enough both one two. converge custom sound base start redo records root other per_file w x taken enough both one two
