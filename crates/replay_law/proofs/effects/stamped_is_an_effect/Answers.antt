use Rattle.replay_law.proofs.StampedEffects.{image_is, init_is, change_is}
use Rattle.replay_law.proofs.effects.stamped_is_an_effect.Goals as goal

pub returns-clause-image : goal.returns-clause-image
returns-clause-image c = image_is

pub returns-clause-init : goal.returns-clause-init
returns-clause-init c = init_is

pub returns-clause-change : goal.returns-clause-change
returns-clause-change c = change_is
