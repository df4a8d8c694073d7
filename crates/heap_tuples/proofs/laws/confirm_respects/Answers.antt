use Rattle.heap_tuples.proofs.OperationLaws.{confirm_law, confirm_keeps}
use Rattle.heap_tuples.proofs.laws.confirm_respects.Goals as goal

pub returns-clause-mask : goal.returns-clause-mask
returns-clause-mask c = confirm_law

pub returns-clause-page : goal.returns-clause-page
returns-clause-page c = confirm_keeps
