use Rattle.resumed_laws.proofs.ResumeLemmas.{plan-same}
use Rattle.resumed_laws.proofs.laws.resumes_leave_the_same.Goals as goal

pub returns : goal.returns
returns g = λ found c i plan sound between. plan-same found c i plan sound between
