use Rattle.resumed_laws.proofs.RunLemmas.{runs-between}
use Rattle.resumed_laws.proofs.run_laws.runs_stay_between.Goals as goal

pub returns : goal.returns
returns g = λ found c plan a b done sound synced course ran. runs-between found c plan sound a b done synced course ran
