use Rattle.cluster_tree.proofs.JoinedLemmas.{joined_writes-cut}
use Rattle.cluster_tree.proofs.MadeLemmas.{joined-by_parts, first_are-part}
use Rattle.cluster_tree.proofs.laws.joined_writes_law.Goals as goal

pub returns-clause-one : goal.returns-clause-one
returns-clause-one c = joined_writes-cut

pub returns-clause-by_parts : goal.returns-clause-by_parts
returns-clause-by_parts c = joined-by_parts

pub returns-clause-part : goal.returns-clause-part
returns-clause-part c = first_are-part
