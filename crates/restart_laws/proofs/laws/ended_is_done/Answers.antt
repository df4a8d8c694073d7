use Rattle.restart_laws.proofs.DoneLemmas.{has-ended}
use Rattle.restart_laws.proofs.laws.ended_is_done.Goals as goal

pub returns : goal.returns
returns g = λ custom sound root s listed c d x b y new after begun served stopped restored is same left.
    has-ended custom sound root s listed c d x new begun served stopped y b after restored is same left
