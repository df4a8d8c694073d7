use Rattle.file_edits.specs.Sparing.{spares}
use Rattle.file_edits.proofs.OwnLemmas.{goes-by_on}
use Rattle.file_edits.proofs.SparingLemmas.{own-spares, shows-by_run, spared-stop}
use Rattle.file_edits.proofs.laws.sparing_laws.Goals as goal

pub returns-clause-stays : goal.returns-clause-stays
returns-clause-stays c = shows-by_run

pub returns-clause-at_any_stop : goal.returns-clause-at_any_stop
returns-clause-at_any_stop c = spared-stop

pub returns-clause-in_turn : goal.returns-clause-in_turn
returns-clause-in_turn c piece = goes-by_on (spares piece)

pub returns-clause-own : goal.returns-clause-own
returns-clause-own c = own-spares
