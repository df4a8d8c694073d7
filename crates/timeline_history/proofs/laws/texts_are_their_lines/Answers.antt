use Rattle.timeline_history.proofs.LineLemmas.{lines_are_lines, text_is_lines, newline_left_out}
use Rattle.timeline_history.proofs.laws.texts_are_their_lines.Goals as goal

pub returns-clause-each : goal.returns-clause-each
returns-clause-each c = lines_are_lines

pub returns-clause-ended : goal.returns-clause-ended
returns-clause-ended c = text_is_lines

pub returns-clause-left_out : goal.returns-clause-left_out
returns-clause-left_out c = newline_left_out
