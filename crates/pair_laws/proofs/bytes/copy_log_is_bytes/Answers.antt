use Rattle.pair_laws.proofs.WalLemmas.{copy-log_bytes}
use Rattle.pair_laws.proofs.bytes.copy_log_is_bytes.Goals as goal

pub returns : goal.returns
returns g = copy-log_bytes
