use Rattle.resumed_laws.proofs.RunLemmas.{marked-sound}
use Rattle.resumed_laws.proofs.run_laws.marked_plans_are_sound.Goals as goal

pub returns : goal.returns
returns g = marked-sound
