use Rattle.resumed_laws.proofs.ResumeLemmas.{plan-finds}
use Rattle.resumed_laws.proofs.laws.resumes_find_what_they_read.Goals as goal

pub returns : goal.returns
returns g = λ found c i plan sound between. plan-finds found c i plan sound between
