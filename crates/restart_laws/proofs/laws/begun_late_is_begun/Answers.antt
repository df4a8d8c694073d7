use Rattle.restart_laws.proofs.LateLemmas.{begun-late}
use Rattle.restart_laws.proofs.laws.begun_late_is_begun.Goals as goal

pub returns : goal.returns
returns g = λ custom root c x new told anew same taken left. begun-late custom root c x anew same taken new told left
