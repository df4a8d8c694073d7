use Rattle.block_effects.proofs.MeetLemmas.{meets}
use Rattle.block_effects.proofs.laws.effects_meet.Goals as goal

pub returns : goal.returns
returns c = meets
