use Rattle.cluster_tree.proofs.PartLemmas.{checked_parts, part_kept, part_admitted}
use Rattle.cluster_tree.proofs.path_laws.part_laws.Goals as goal

pub returns-clause-proper : goal.returns-clause-proper
returns-clause-proper c = checked_parts

pub returns-clause-kept : goal.returns-clause-kept
returns-clause-kept c = part_kept

pub returns-clause-admitted : goal.returns-clause-admitted
returns-clause-admitted c = part_admitted
