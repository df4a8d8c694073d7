use Rattle.resumed_laws.proofs.RunLemmas.{resumes-between}
use Rattle.resumed_laws.proofs.run_laws.resumes_stay_between.Goals as goal

pub returns : goal.returns
returns g = λ found c i plan a b done sound between synced course ran. resumes-between found c plan sound i a b done between synced course ran
