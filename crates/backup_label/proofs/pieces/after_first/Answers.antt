use Rattle.memchr.specs.Find.{is_byte}
use Rattle.timeline_history.proofs.PieceLemmas.{after_found, after_none}
use Rattle.backup_label.proofs.pieces.after_first.Goals as goal

pub returns-in-Some : goal.returns-in-Some
returns-in-Some c = after_found (is_byte c.args.byte) c.args.bytes.now c.in-Some.at c.in-Some.ensures

pub returns-in-None : goal.returns-in-None
returns-in-None c = after_none (is_byte c.args.byte) c.args.bytes.now c.in-None.ensures
