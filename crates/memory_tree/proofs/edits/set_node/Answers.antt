use Rattle.std.proofs.Common.{rules}
use Rattle.memory_tree.proofs.NodeLemmas.{set_at, pushed}
use Rattle.memory_tree.proofs.edits.set_node.Goals as goal

pub returns-in-Some-clause-set : goal.returns-in-Some-clause-set
returns-in-Some-clause-set c = search (rules, set_at)

pub returns-in_ok-push-in-None-clause-set : goal.returns-in_ok-push-in-None-clause-set
returns-in_ok-push-in-None-clause-set c = search (rules, pushed)
