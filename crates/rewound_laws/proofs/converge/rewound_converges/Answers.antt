use Rattle.rewound_laws.proofs.ConvergeLemmas.{follows}
use Rattle.rewound_laws.proofs.converge.rewound_converges.Goals as goal

pub returns : goal.returns
returns g = follows
