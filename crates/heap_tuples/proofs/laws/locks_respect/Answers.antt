use Rattle.heap_tuples.proofs.OperationLaws.{lock_law, lock_keeps, version_law, version_keeps}
use Rattle.heap_tuples.proofs.laws.locks_respect.Goals as goal

pub returns-clause-lock : goal.returns-clause-lock
returns-clause-lock c = lock_law

pub returns-clause-lock_kept : goal.returns-clause-lock_kept
returns-clause-lock_kept c = lock_keeps

pub returns-clause-updated : goal.returns-clause-updated
returns-clause-updated c = version_law

pub returns-clause-updated_kept : goal.returns-clause-updated_kept
returns-clause-updated_kept c = version_keeps
