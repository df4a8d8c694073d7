use Rattle.replay_areas.proofs.ListLemmas.{lists_below}
use Rattle.replay_areas.proofs.laws.areas_are_lists.Goals as goal

pub returns : goal.returns
returns c = lists_below
