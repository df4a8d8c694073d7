use Rattle.run_acts.proofs.GrowSteps.{performs_grow}
use Rattle.run_acts.proofs.LawLemmas.{reports-in_order}
use Rattle.run_acts.proofs.laws.sink_laws.Goals as goal

pub returns-clause-reports_in_order : goal.returns-clause-reports_in_order
returns-clause-reports_in_order c = reports-in_order

pub returns-clause-sinks_grow : goal.returns-clause-sinks_grow
returns-clause-sinks_grow c = performs_grow
