use Rattle.restored_laws.proofs.LaidLemmas.{laid-left}
use Rattle.restored_laws.proofs.laws.laid_is_left.Goals as goal

pub returns : goal.returns
returns c = λ root listed before first left list laid beside. laid-left root listed before first left laid.elsewhere beside laid.copies.copied list
