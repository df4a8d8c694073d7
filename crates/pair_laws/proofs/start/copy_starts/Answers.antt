use Rattle.pair_laws.proofs.StartLemmas.{copy-starts}
use Rattle.pair_laws.proofs.start.copy_starts.Goals as goal

pub returns : goal.returns
returns g = copy-starts
