use Rattle.touched_blocks.proofs.chunk.with_bit.Goals as goal
use Rattle.touched_blocks.proofs.BitLemmas.{one_more}

-- src/chunk.rt:28:1
pub returns : goal.returns
returns c = λ i. one_more c.args.byte c.args.bit i c.requires
