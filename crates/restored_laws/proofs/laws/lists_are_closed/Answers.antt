use Rattle.restored_laws.proofs.ClosedLemmas.{areas-closed}
use Rattle.restored_laws.proofs.laws.lists_are_closed.Goals as goal

pub returns : goal.returns
returns c = λ contents root listed tree is. areas-closed contents root tree listed is
