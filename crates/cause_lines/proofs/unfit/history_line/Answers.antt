use Rattle.cause_lines.proofs.unfit.history_line.Goals as goal

pub returns-in_ok-line-in-BadLine-clause-line : goal.returns-in_ok-line-in-BadLine-clause-line
returns-in_ok-line-in-BadLine-clause-line c = rw c.in-BadLine.is c.in_ok-line-in-BadLine.ensures
