use Rattle.cluster_laws.proofs.BothLemmas.{both-end}
use Rattle.cluster_laws.proofs.replays.both_replay.Goals as goal

pub returns : goal.returns
returns g = λ custom sound base redo c d root other s both holds kinds passes enough one two. both-end custom sound base redo c d root other s both holds kinds passes enough one two
