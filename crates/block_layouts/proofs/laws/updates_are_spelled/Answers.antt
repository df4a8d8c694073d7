use Rattle.block_layouts.proofs.UpdateSpelling.{updates}
use Rattle.block_layouts.proofs.laws.updates_are_spelled.Goals as goal

pub returns : goal.returns
returns c = updates
