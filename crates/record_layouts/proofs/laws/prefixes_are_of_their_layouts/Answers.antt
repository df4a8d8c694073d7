use Rattle.record_layouts.proofs.DroppedLemmas.{ends}
use Rattle.record_layouts.proofs.PrefixLemmas.{checkpoints, creations, cuts, drops, names, parameters}
use Rattle.record_layouts.proofs.laws.prefixes_are_of_their_layouts.Goals as goal

pub returns-clause-settings : goal.returns-clause-settings
returns-clause-settings c = parameters

pub returns-clause-checkpoints : goal.returns-clause-checkpoints
returns-clause-checkpoints c = checkpoints

pub returns-clause-made : goal.returns-clause-made
returns-clause-made c = creations

pub returns-clause-gone : goal.returns-clause-gone
returns-clause-gone c = drops

pub returns-clause-created : goal.returns-clause-created
returns-clause-created c = names

pub returns-clause-cut : goal.returns-clause-cut
returns-clause-cut c = cuts

pub returns-clause-dropped : goal.returns-clause-dropped
returns-clause-dropped c = ends
