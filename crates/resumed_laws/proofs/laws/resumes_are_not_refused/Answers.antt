use Rattle.resumed_laws.proofs.ResumeLemmas.{plan-unrefused}
use Rattle.resumed_laws.proofs.laws.resumes_are_not_refused.Goals as goal

pub returns : goal.returns
returns g = λ found c i plan sound between. plan-unrefused found c i plan sound between
