use Rattle.restored_laws.proofs.AlikeLemmas.{back-alike, back-versions}
use Rattle.restored_laws.proofs.laws.back_is_alike.Goals as goal

pub returns : goal.returns
returns c = λ per root first left again back own. (back-alike per root first left again back own, back-versions per root first left again back)
