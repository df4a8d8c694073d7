use Rattle.storage_laws.proofs.ForkLemmas.{written-gapless}
use Rattle.storage_laws.proofs.GapLemmas.{created-gaps, database-dropped-gaps, dropped-gaps, edited-gaps, made-gaps, map-written-gaps, truncated-gaps}
use Rattle.storage_laws.proofs.gaps.gap_laws.Goals as goal

pub returns-clause-written : goal.returns-clause-written
returns-clause-written c = written-gapless

pub returns-clause-truncated : goal.returns-clause-truncated
returns-clause-truncated c = truncated-gaps

pub returns-clause-created : goal.returns-clause-created
returns-clause-created c = created-gaps

pub returns-clause-dropped : goal.returns-clause-dropped
returns-clause-dropped c = dropped-gaps

pub returns-clause-edited : goal.returns-clause-edited
returns-clause-edited c = edited-gaps

pub returns-clause-made : goal.returns-clause-made
returns-clause-made c = made-gaps

pub returns-clause-database_dropped : goal.returns-clause-database_dropped
returns-clause-database_dropped c = database-dropped-gaps

pub returns-clause-map_written : goal.returns-clause-map_written
returns-clause-map_written c = map-written-gaps
