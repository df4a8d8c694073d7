use Rattle.rewind_core.proofs.MarkLemmas.{mark-unfinished, rewind-refused, source-refused, target-refused}
use Rattle.rewind_core.proofs.laws.marks_are_refused.Goals as goal

pub returns-clause-unfinished : goal.returns-clause-unfinished
returns-clause-unfinished c = mark-unfinished

pub returns-clause-target : goal.returns-clause-target
returns-clause-target c = target-refused

pub returns-clause-rewind : goal.returns-clause-rewind
returns-clause-rewind c = rewind-refused

pub returns-clause-source : goal.returns-clause-source
returns-clause-source c = source-refused
