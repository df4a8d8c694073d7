use Rattle.acts.proofs.LawLemmas.{sink_fault-no, half-no, printed-all, faults-first}
use Rattle.acts.proofs.laws.text_laws.Goals as goal

pub returns-clause-no_sink_fault : goal.returns-clause-no_sink_fault
returns-clause-no_sink_fault c = sink_fault-no

pub returns-clause-no_half : goal.returns-clause-no_half
returns-clause-no_half c = half-no

pub returns-clause-all_printed : goal.returns-clause-all_printed
returns-clause-all_printed c = printed-all

pub returns-clause-faults_first : goal.returns-clause-faults_first
returns-clause-faults_first c = faults-first
