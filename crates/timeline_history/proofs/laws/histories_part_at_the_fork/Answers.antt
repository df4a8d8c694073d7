use Rattle.timeline_history.proofs.LawLemmas.{below_the_fork, past_the_fork}
use Rattle.timeline_history.proofs.LeavingLemmas.{left_at_the_fork, shared_span}
use Rattle.timeline_history.proofs.laws.histories_part_at_the_fork.Goals as goal

pub returns-clause-shared : goal.returns-clause-shared
returns-clause-shared c = shared_span

pub returns-clause-below : goal.returns-clause-below
returns-clause-below c = below_the_fork

pub returns-clause-left : goal.returns-clause-left
returns-clause-left c = λ a b fork at h k apart e l x. left_at_the_fork a b fork at h k apart e l x.0 x.1

pub returns-clause-past : goal.returns-clause-past
returns-clause-past c = past_the_fork
