use Rattle.block_refs.proofs.RiseLemmas.{parts_rise, id_names}
use Rattle.block_refs.proofs.laws.ids_rise.Goals as goal

pub returns-clause-rise : goal.returns-clause-rise
returns-clause-rise c = parts_rise

pub returns-clause-named : goal.returns-clause-named
returns-clause-named c = id_names
