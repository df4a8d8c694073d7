use Rattle.std.proofs.Common.{length}
use Rattle.gated_marks.proofs.HeadLemmas.{look-broken, look-left}
use Rattle.gated_marks.proofs.head.lay_head.Goals as goal

pub returns-in-Err-clause-carries : goal.returns-in-Err-clause-carries
returns-in-Err-clause-carries g c = look-broken g.F.Tree c.args.mark.now c.args.head.now _ _ c.in-Err.ensures.frame c.kind.result c.in-Err.fault _ c.of_look.ensures c.in-Err.is c.kind.ensures.answer

pub returns-in-Err-clause-any_moment : goal.returns-in-Err-clause-any_moment
returns-in-Err-clause-any_moment g c = λ told none. look-left g.F.Tree c.args.mark.now c.args.head.now _ _ c.in-Err.ensures.frame (length c.args.head.now)
