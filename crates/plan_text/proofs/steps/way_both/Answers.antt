use Rattle.std.proofs.Common.{length, arith}
use Rattle.plan_text.proofs.OwnWayLemmas.{ways_have_room}
use Rattle.plan_text.proofs.steps.way_both.Goals as goal

pub returns-clause-target : goal.returns-clause-target
returns-clause-target c = ways_have_room c.step_way_in.result _ (length c.args.roots.now.target.now.parts) c.args.word.now c.step_way_in.ensures (omega (arith, c.len.ensures.value, c.len-2.ensures.value, c.max.ensures))

pub returns-clause-source : goal.returns-clause-source
returns-clause-source c = ways_have_room c.step_way_in.result _ (length c.args.roots.now.source.now.parts) c.args.word.now c.step_way_in.ensures (omega (arith, c.len.ensures.value, c.len-2.ensures.value, c.max.ensures))
