use Rattle.resumed_laws.proofs.SyncLemmas.{end-synced}
use Rattle.resumed_laws.proofs.run_laws.synced_runs_stand.Goals as goal

pub returns : goal.returns
returns g = end-synced
