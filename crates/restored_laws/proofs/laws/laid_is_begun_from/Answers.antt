use Rattle.restored_laws.proofs.LaidLemmas.{laid-begun}
use Rattle.restored_laws.proofs.laws.laid_is_begun_from.Goals as goal

pub returns : goal.returns
returns c = λ root listed before first begun laid tree. laid-begun root listed before first laid.elsewhere begun tree
