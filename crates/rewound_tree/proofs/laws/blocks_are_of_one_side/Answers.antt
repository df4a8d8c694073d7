use Rattle.rewound_tree.proofs.MixedLemmas.{block_side}
use Rattle.rewound_tree.proofs.laws.blocks_are_of_one_side.Goals as goal

pub returns : goal.returns
returns c = block_side
