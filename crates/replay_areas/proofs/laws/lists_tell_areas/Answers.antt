use Rattle.replay_areas.proofs.TellLemmas.{lists_tell}
use Rattle.replay_areas.proofs.laws.lists_tell_areas.Goals as goal

pub returns : goal.returns
returns c = lists_tell
