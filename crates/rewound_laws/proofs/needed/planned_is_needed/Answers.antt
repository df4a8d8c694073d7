use Rattle.rewound_laws.proofs.NeededLemmas.{planned-needed}
use Rattle.rewound_laws.proofs.needed.planned_is_needed.Goals as goal

pub returns : goal.returns
returns g = λ c target source now n planned. planned-needed c target source now n planned
