use Rattle.rewind_writes.proofs.StepLemmas.{body-broken, body-taken}
use Rattle.rewind_writes.proofs.plan.put_body.Goals as goal

pub returns-in-Ok-clause-takes : goal.returns-in-Ok-clause-takes
returns-in-Ok-clause-takes g c = λ d. body-taken g.F.Tree d c.args.steps.items c.args.label c.args.control _ _ _ _ _ (c.in-Ok.ensures.takes d) c.put_closing.ensures.performs

pub returns-in-Err-clause-takes : goal.returns-in-Err-clause-takes
returns-in-Err-clause-takes g c = λ d. body-broken g.F.Tree d c.args.steps.items c.args.label c.args.control _ _ c.in-Err.fault (c.in-Err.ensures.takes d)
