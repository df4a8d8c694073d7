use Rattle.timeline_history.proofs.LawLemmas.{single_fault, no_fault}
use Rattle.timeline_history.proofs.laws.files_have_one_first_fault.Goals as goal

pub returns-clause-single : goal.returns-clause-single
returns-clause-single c = single_fault

pub returns-clause-none : goal.returns-clause-none
returns-clause-none c = no_fault
