use Rattle.cmd_archivecleanup.proofs.LawLemmas.{lines-in_order, nothing-else}
use Rattle.cmd_archivecleanup.proofs.laws.cleanup_laws.Goals as goal

pub returns-clause-lines_in_order : goal.returns-clause-lines_in_order
returns-clause-lines_in_order c = lines-in_order

pub returns-clause-nothing_else : goal.returns-clause-nothing_else
returns-clause-nothing_else c = nothing-else
