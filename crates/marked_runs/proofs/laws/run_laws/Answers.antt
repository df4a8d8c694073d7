use Rattle.marked_runs.proofs.RunLemmas.{runs-then, runs-front, made-part, made-all}
use Rattle.marked_runs.proofs.ZeroLemmas.{runs-cut}
use Rattle.marked_runs.proofs.laws.run_laws.Goals as goal

pub returns-clause-then : goal.returns-clause-then
returns-clause-then c = runs-then

pub returns-clause-front : goal.returns-clause-front
returns-clause-front c = runs-front

pub returns-clause-cut : goal.returns-clause-cut
returns-clause-cut c = runs-cut

pub returns-clause-part : goal.returns-clause-part
returns-clause-part c = made-part

pub returns-clause-all : goal.returns-clause-all
returns-clause-all c = made-all
