use Rattle.resumed_writes.proofs.AgainLemmas.{body-broken, body-then}
use Rattle.resumed_writes.proofs.performing.put_body.Goals as goal

pub returns-in-Ok-clause-takes : goal.returns-in-Ok-clause-takes
returns-in-Ok-clause-takes g c = body-then g.F.Tree c.args.steps.items c.args.label c.args.control _ _ _ _ _ c.in-Ok.ensures.takes c.put_closing.ensures.tries

pub returns-in-Err-clause-takes : goal.returns-in-Err-clause-takes
returns-in-Err-clause-takes g c = body-broken g.F.Tree c.args.steps.items c.args.label c.args.control _ _ c.in-Err.fault c.in-Err.ensures.takes
