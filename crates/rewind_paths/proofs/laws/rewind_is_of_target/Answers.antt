use Rattle.rewind_paths.proofs.BelowLemmas.{of-target}
use Rattle.rewind_paths.proofs.laws.rewind_is_of_target.Goals as goal

pub returns : goal.returns
returns g = of-target
