use Rattle.std.proofs.Common.{rules}
use Rattle.memory_tree.proofs.NodeLemmas.{pushed}
use Rattle.memory_tree.proofs.edits.put_in.Goals as goal

pub returns-clause-made : goal.returns-clause-made
returns-clause-made c = search (rules, pushed)
