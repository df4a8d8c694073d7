use Rattle.restored_laws.proofs.BlockLemmas.{block-back}
use Rattle.restored_laws.proofs.laws.back_keeps_blocks.Goals as goal

pub returns : goal.returns
returns c = block-back
