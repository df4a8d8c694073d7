use Rattle.block_layouts.proofs.HoldLemmas.{update_holds}
use Rattle.block_layouts.proofs.laws.updates_hold_their_bytes.Goals as goal

pub returns : goal.returns
returns c = update_holds
