use Rattle.alike_clusters.proofs.EffectLemmas.{effects-left}
use Rattle.alike_clusters.proofs.effects.effects_alike.Goals as goal

pub returns : goal.returns
returns g = λ root other per_file rec parts c d both. effects-left per_file root other rec parts c d both
