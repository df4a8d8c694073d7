use Rattle.std.proofs.Common.{not}
use Rattle.timeline_history.specs.Line.{is_blank}
use Rattle.timeline_history.proofs.FieldLemmas.{from_start, no_start}
use Rattle.timeline_history.proofs.line.without_blanks.Goals as goal

pub returns-in-Some : goal.returns-in-Some
returns-in-Some c = from_start (λ byte. not (is_blank byte)) c.args.line.now c.in-Some.at c.in-Some.ensures

pub returns-in-None : goal.returns-in-None
returns-in-None c = no_start (λ byte. not (is_blank byte)) c.args.line.now c.in-None.ensures
