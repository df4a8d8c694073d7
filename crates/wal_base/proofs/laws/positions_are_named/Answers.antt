use Rattle.wal_base.proofs.LsnLemmas.{named_by_reading, read_by_naming, lsn_of-lsn_text, lsn_of-lsn_padded}
use Rattle.wal_base.proofs.laws.positions_are_named.Goals as goal

pub returns-clause-named : goal.returns-clause-named
returns-clause-named c = λ text at. (named_by_reading text at, read_by_naming text at)

pub returns-clause-shown : goal.returns-clause-shown
returns-clause-shown c = lsn_of-lsn_text

pub returns-clause-padded : goal.returns-clause-padded
returns-clause-padded c = lsn_of-lsn_padded
