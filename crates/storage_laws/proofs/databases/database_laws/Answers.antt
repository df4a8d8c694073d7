use Rattle.storage_laws.proofs.DatabaseLemmas.{made-is, map-written-is, database-dropped-is}
use Rattle.storage_laws.proofs.databases.database_laws.Goals as goal

pub returns-clause-made : goal.returns-clause-made
returns-clause-made c = made-is

pub returns-clause-dropped : goal.returns-clause-dropped
returns-clause-dropped c = database-dropped-is

pub returns-clause-map : goal.returns-clause-map
returns-clause-map c = map-written-is
