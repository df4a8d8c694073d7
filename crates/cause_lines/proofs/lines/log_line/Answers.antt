use Rattle.cause_lines.proofs.lines.log_line.Goals as goal

pub returns-in-BadParts : goal.returns-in-BadParts
returns-in-BadParts c = rw c.in-BadParts.is c.record_line.ensures

pub returns-in-BadSegment : goal.returns-in-BadSegment
returns-in-BadSegment c = rw c.in-BadSegment.is c.path_line-in-BadSegment.ensures
