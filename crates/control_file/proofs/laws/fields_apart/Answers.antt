use Rattle.control_file.proofs.TableLemmas.{ascends_rows, ascends_checkpoint, apart_rows, apart_checkpoint}
use Rattle.control_file.proofs.laws.fields_apart.Goals as goal

pub returns-clause-order : goal.returns-clause-order
returns-clause-order c = λ control. ascends_rows control

pub returns-clause-apart : goal.returns-clause-apart
returns-clause-apart c = λ control. apart_rows control

pub returns-clause-copy_order : goal.returns-clause-copy_order
returns-clause-copy_order c = λ cp. ascends_checkpoint cp

pub returns-clause-copy_apart : goal.returns-clause-copy_apart
returns-clause-copy_apart c = λ cp. apart_checkpoint cp
