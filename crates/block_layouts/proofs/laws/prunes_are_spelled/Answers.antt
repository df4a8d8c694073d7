use Rattle.block_layouts.proofs.PruneSpelling.{prunes}
use Rattle.block_layouts.proofs.laws.prunes_are_spelled.Goals as goal

pub returns : goal.returns
returns c = prunes
