use Rattle.heap_tuples.proofs.OperationLaws.{delete_law, delete_keeps}
use Rattle.heap_tuples.proofs.laws.delete_respects.Goals as goal

pub returns-clause-mask : goal.returns-clause-mask
returns-clause-mask c = delete_law

pub returns-clause-page : goal.returns-clause-page
returns-clause-page c = delete_keeps
