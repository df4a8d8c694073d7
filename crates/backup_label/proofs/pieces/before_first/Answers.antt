use Rattle.memchr.specs.Find.{is_byte}
use Rattle.timeline_history.proofs.PieceLemmas.{before_found, before_none}
use Rattle.backup_label.proofs.pieces.before_first.Goals as goal

pub returns-in-Some : goal.returns-in-Some
returns-in-Some c = before_found (is_byte c.args.byte) c.args.bytes.now c.in-Some.at c.in-Some.ensures

pub returns-in-None : goal.returns-in-None
returns-in-None c = before_none (is_byte c.args.byte) c.args.bytes.now c.in-None.ensures
