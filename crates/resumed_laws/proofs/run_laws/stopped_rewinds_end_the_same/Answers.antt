use Rattle.resumed_laws.proofs.RunLemmas.{left-between, whole-resume}
use Rattle.resumed_laws.proofs.run_laws.stopped_rewinds_end_the_same.Goals as goal

pub returns : goal.returns
returns g = λ found c i plan sound none left. whole-resume found c plan sound i (left-between found c plan sound i left) none
