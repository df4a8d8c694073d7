use Rattle.std.proofs.Common.{rules}
use Rattle.pair_maker.proofs.ControlLemmas.{rewound-holds}
use Rattle.pair_maker.proofs.control.rewound_at.Goals as goal

pub returns-clause-control : goal.returns-clause-control
returns-clause-control c = rewound-holds c.args.side c.args.place _ (search rules)
