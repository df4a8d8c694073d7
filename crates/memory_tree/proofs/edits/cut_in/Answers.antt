use Rattle.std.proofs.Common.{rules}
use Rattle.memory_tree.proofs.NodeLemmas.{shortened_at}
use Rattle.cluster_tree.proofs.StepLemmas.{shortened-step}
use Rattle.memory_tree.proofs.edits.cut_in.Goals as goal

pub returns-clause-cut : goal.returns-clause-cut
returns-clause-cut c = search (rules, shortened_at)

pub returns-clause-step : goal.returns-clause-step
returns-clause-step c = shortened-step _ _ _ _ c.requires (search (rules, shortened_at))
