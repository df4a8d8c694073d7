use Rattle.pair_laws.proofs.ReadLemmas.{side-read}
use Rattle.pair_laws.proofs.read.pair_logs_are_read.Goals as goal

pub returns : goal.returns
returns g = side-read
