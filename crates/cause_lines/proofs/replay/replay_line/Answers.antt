use Rattle.cause_lines.proofs.replay.replay_line.Goals as goal

pub returns-in-BadLabel : goal.returns-in-BadLabel
returns-in-BadLabel c = rw c.in-BadLabel.is c.number_line.ensures

pub returns-in-EndsTooSoon : goal.returns-in-EndsTooSoon
returns-in-EndsTooSoon c = rw c.in-EndsTooSoon.is c.ends_line.ensures
