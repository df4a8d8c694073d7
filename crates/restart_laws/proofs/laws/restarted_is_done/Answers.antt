use Rattle.restart_laws.proofs.DoneLemmas.{is-done}
use Rattle.restart_laws.proofs.laws.restarted_is_done.Goals as goal

pub returns : goal.returns
returns g = λ custom sound root s listed c d x new count begun served stopped left. is-done custom sound root s listed c d x new begun served stopped count left
