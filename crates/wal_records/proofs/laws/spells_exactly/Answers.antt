use Rattle.wal_records.proofs.ViewLemmas.{spells_both}
use Rattle.wal_records.proofs.laws.spells_exactly.Goals as goal

pub returns : goal.returns
returns c = spells_both
