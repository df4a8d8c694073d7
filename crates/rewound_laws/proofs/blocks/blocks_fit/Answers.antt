use Rattle.rewound_laws.proofs.BlockLemmas.{blocks-fit}
use Rattle.rewound_laws.proofs.blocks.blocks_fit.Goals as goal

pub returns : goal.returns
returns g = λ custom base c c' d target source other now n s planned left copied grew. blocks-fit custom base c c' d target source other now n s planned left.sides left copied grew
