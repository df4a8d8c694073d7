use Rattle.plain_restarts.proofs.KindLemmas.{little-in_way}
use Rattle.plain_restarts.proofs.laws.little_is_in_the_way.Goals as goal

pub returns : goal.returns
returns g = λ root c e kinds why. little-in_way root c e kinds why
