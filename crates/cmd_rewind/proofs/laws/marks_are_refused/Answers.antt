use Rattle.std.proofs.Common.{ap}
use Rattle.rewind_core.proofs.MarkLemmas.{rewind-refused, target-refused}
use Rattle.cmd_rewind.specs.Rewind.{found_answer}
use Rattle.cmd_rewind.proofs.laws.marks_are_refused.Goals as goal

pub returns-clause-any : goal.returns-clause-any
returns-clause-any g = λ c words now mark there.
    let one = target-refused c words.target words.source mark now there in
    (one.0, one.1, ap (found_answer words.dry_run c c) one.2)

pub returns-clause-rewind : goal.returns-clause-rewind
returns-clause-rewind g = λ c words now stands. ap (found_answer words.dry_run c c) (rewind-refused c words.target words.source now stands)
