use Rattle.marked_runs.proofs.StopLemmas.{body-stands, body-left, three-left}
use Rattle.marked_runs.proofs.laws.stop_laws.Goals as goal

pub returns-clause-stays : goal.returns-clause-stays
returns-clause-stays c = body-stands

pub returns-clause-left : goal.returns-clause-left
returns-clause-left c = body-left

pub returns-clause-safe : goal.returns-clause-safe
returns-clause-safe c = three-left
