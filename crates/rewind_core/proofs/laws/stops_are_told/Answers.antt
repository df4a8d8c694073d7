use Rattle.rewind_core.proofs.LeftLemmas.{stop-told}
use Rattle.rewind_core.proofs.laws.stops_are_told.Goals as goal

pub returns : goal.returns
returns c = stop-told
