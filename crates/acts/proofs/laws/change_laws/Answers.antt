use Rattle.acts.proofs.LawLemmas.{unchanged-no_memory, line-first, made-all}
use Rattle.acts.proofs.laws.change_laws.Goals as goal

pub returns-clause-no_memory_unchanged : goal.returns-clause-no_memory_unchanged
returns-clause-no_memory_unchanged c = unchanged-no_memory

pub returns-clause-line_first : goal.returns-clause-line_first
returns-clause-line_first c = line-first

pub returns-clause-all_made : goal.returns-clause-all_made
returns-clause-all_made c = made-all
