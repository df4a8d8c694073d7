use Rattle.local_replays.proofs.RecordLemmas.{records-same}
use Rattle.local_replays.proofs.laws.records_look_there.Goals as goal

pub returns : goal.returns
returns g = λ custom root seen per_file records w v sees same. records-same seen root sees custom per_file records w v same
