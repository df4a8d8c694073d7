use Rattle.resumed_laws.specs.Between.{IsBetween}
use Rattle.resumed_laws.proofs.EndLemmas.{end-leaves}
use Rattle.resumed_laws.proofs.run_laws.ends_stay_between.Goals as goal

pub returns : goal.returns
returns g = λ c plan a b done now left course ran. end-leaves (IsBetween c plan) plan.mark a now left b done course ran
