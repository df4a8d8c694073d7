use Rattle.rewound_laws.proofs.BlockSideLemmas.{left-block}
use Rattle.rewound_laws.proofs.blocks.rewound_blocks.Goals as goal

pub returns : goal.returns
returns g = λ c c' n name some left main. left-block c c' n left.sides left name some main
