use Rattle.rewound_laws.proofs.BlockLemmas.{copy-kinds}
use Rattle.rewound_laws.proofs.blocks.copies_have_kinds.Goals as goal

pub returns : goal.returns
returns g = λ c d n other copied kinds room. copy-kinds c d n other copied kinds room
