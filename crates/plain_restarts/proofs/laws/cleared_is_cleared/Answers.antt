use Rattle.plain_restarts.proofs.ClearedLemmas.{is-cleared}
use Rattle.plain_restarts.proofs.laws.cleared_is_cleared.Goals as goal

pub returns : goal.returns
returns g = λ root c. is-cleared root c
