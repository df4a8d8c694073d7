use Rattle.memchr.specs.Find.{is_byte}
use Rattle.timeline_history.proofs.PieceLemmas.{before_found, after_found, before_none, after_none}
use Rattle.timeline_history.proofs.pieces.cut_at.Goals as goal

pub returns-in-Some-clause-before : goal.returns-in-Some-clause-before
returns-in-Some-clause-before c = before_found (is_byte c.args.byte) c.args.bytes.now c.in-Some.at c.in-Some.ensures

pub returns-in-Some-clause-after : goal.returns-in-Some-clause-after
returns-in-Some-clause-after c = after_found (is_byte c.args.byte) c.args.bytes.now c.in-Some.at c.in-Some.ensures

pub returns-in-None-clause-before : goal.returns-in-None-clause-before
returns-in-None-clause-before c = before_none (is_byte c.args.byte) c.args.bytes.now c.in-None.ensures

pub returns-in-None-clause-after : goal.returns-in-None-clause-after
returns-in-None-clause-after c = after_none (is_byte c.args.byte) c.args.bytes.now c.in-None.ensures
