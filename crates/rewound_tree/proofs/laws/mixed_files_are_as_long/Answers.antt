use Rattle.rewound_tree.proofs.MixedLemmas.{mixed_length}
use Rattle.rewound_tree.proofs.laws.mixed_files_are_as_long.Goals as goal

pub returns : goal.returns
returns c = mixed_length
