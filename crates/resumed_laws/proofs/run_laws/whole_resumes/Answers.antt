use Rattle.resumed_laws.proofs.RunLemmas.{whole-resume}
use Rattle.resumed_laws.proofs.run_laws.whole_resumes.Goals as goal

pub returns : goal.returns
returns g = λ found c i plan sound between none. whole-resume found c plan sound i between none
