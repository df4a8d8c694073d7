use Rattle.std.proofs.Common.{rules}
use Rattle.pair_maker.proofs.ControlLemmas.{control-holds}
use Rattle.pair_maker.proofs.control.control_at.Goals as goal

pub returns-clause-control : goal.returns-clause-control
returns-clause-control c = control-holds c.args.side c.args.place _ (search rules)
