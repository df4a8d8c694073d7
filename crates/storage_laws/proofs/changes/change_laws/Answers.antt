use Rattle.storage_laws.proofs.CutLemmas.{dropped-is}
use Rattle.storage_laws.proofs.EditedLemmas.{created-is}
use Rattle.storage_laws.proofs.ForkLemmas.{map-whole}
use Rattle.storage_laws.proofs.MapLemmas.{map-is}
use Rattle.storage_laws.proofs.changes.change_laws.Goals as goal

pub returns-clause-dropped : goal.returns-clause-dropped
returns-clause-dropped c = dropped-is

pub returns-clause-edited : goal.returns-clause-edited
returns-clause-edited c = map-is

pub returns-clause-created : goal.returns-clause-created
returns-clause-created c = created-is

pub returns-clause-whole : goal.returns-clause-whole
returns-clause-whole c = map-whole
