use Rattle.resumed_writes.proofs.AgainLemmas.{whole-broken, whole-tried}
use Rattle.resumed_writes.proofs.stepping.open_and_copy.Goals as goal

pub returns-in-Ok-clause-takes : goal.returns-in-Ok-clause-takes
returns-in-Ok-clause-takes g c = whole-tried g.F.Tree c.args.from c.args.to c.args.size _ _ _ _ _ c.in-Ok.ensures.tries c.copy_some.ensures.takes

pub returns-in-Err-clause-takes : goal.returns-in-Err-clause-takes
returns-in-Err-clause-takes g c = whole-broken g.F.Tree c.args.from c.args.to c.args.size _ _ c.in-Err.fault _ c.at_target.ensures c.in-Err.ensures.tries
