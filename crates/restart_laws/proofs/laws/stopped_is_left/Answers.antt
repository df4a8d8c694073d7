use Rattle.restored_laws.proofs.LaidLemmas.{laid-left}
use Rattle.restart_laws.proofs.laws.stopped_is_left.Goals as goal

pub returns : goal.returns
returns g = λ custom root s listed c d x list laid stopped. laid-left root listed c d x laid.elsewhere stopped.beside laid.copies.copied list
