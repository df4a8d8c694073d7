use Rattle.block_layouts.proofs.HoldLemmas.{prune_holds}
use Rattle.block_layouts.proofs.laws.prunes_hold_their_bytes.Goals as goal

pub returns : goal.returns
returns c = prune_holds
