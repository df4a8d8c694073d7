use Rattle.rewound_laws.proofs.AlikeWhole.{rewound-alike}
use Rattle.rewound_laws.proofs.NeededLemmas.{planned-needed}
use Rattle.rewound_laws.proofs.alike.rewound_is_alike.Goals as goal

pub returns : goal.returns
returns g = λ c c' d target source other now n planned left copied roomy. rewound-alike c c' d target source other now n (planned-needed c target source now n planned) left.sides left copied roomy
