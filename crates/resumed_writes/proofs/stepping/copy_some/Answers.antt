use Rattle.resumed_writes.proofs.AgainLemmas.{range-none}
use Rattle.resumed_writes.proofs.stepping.copy_some.Goals as goal

pub returns-in-0-clause-takes : goal.returns-in-0-clause-takes
returns-in-0-clause-takes g c = range-none g.F.Tree c.args.from c.args.to c.args.at c.args.size _ c.in-0.is
