use Rattle.wal_base.proofs.DecimalLemmas.{decimal_read, decimal_written}
use Rattle.wal_base.proofs.laws.decimals_are_named.Goals as goal

pub returns : goal.returns
returns c = λ limit n text few. (decimal_read limit n text few, λ h. decimal_written limit n text few h.0 h.1)
