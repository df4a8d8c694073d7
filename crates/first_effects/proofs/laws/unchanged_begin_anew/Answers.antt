use Rattle.first_effects.proofs.LawLemmas.{either, not_first}
use Rattle.first_effects.proofs.laws.unchanged_begin_anew.Goals as goal

pub returns-clause-unchanged : goal.returns-clause-unchanged
returns-clause-unchanged c = either

pub returns-clause-anew : goal.returns-clause-anew
returns-clause-anew c = not_first
