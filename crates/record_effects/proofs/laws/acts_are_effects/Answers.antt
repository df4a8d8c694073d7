use Rattle.record_effects.proofs.ActLemmas.{acts_done}
use Rattle.record_effects.proofs.laws.acts_are_effects.Goals as goal

pub returns : goal.returns
returns c = acts_done
