use Rattle.block_refs.proofs.OrderLemmas.{compared_by_numbers}
use Rattle.block_refs.proofs.laws.blocks_are_ordered.Goals as goal

pub returns : goal.returns
returns c = compared_by_numbers
