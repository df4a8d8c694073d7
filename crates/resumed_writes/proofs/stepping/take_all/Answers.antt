use Rattle.std.proofs.Common.{rules, subst}
use Rattle.rewind_writes.specs.Steps.{AllAreFit}
use Rattle.resumed_writes.proofs.AgainLemmas.{goes-all, goes-broken, goes-on}
use Rattle.resumed_writes.proofs.stepping.take_all.Goals as goal

pub take-requires-clause-fit : goal.take-requires-clause-fit
take-requires-clause-fit g c = (subst AllAreFit c.in-Some.ensures.items c.loop-step.invariant.fit).0

pub loop-step-preserved : goal.loop-step-preserved
loop-step-preserved g c = record {
  goes = goes-on g.F.Tree c.args.steps.items c.loop-step.steps.items c.pop_front.new.self.items c.in-Some.step c.args.tree.now c.loop-step.tree c.take.new.tree _ c.in-Some.ensures.items c.loop-step.invariant.goes c.in-Ok.ensures.takes;
  fit = (subst AllAreFit c.in-Some.ensures.items c.loop-step.invariant.fit).1;
  came = search rules;
}

pub returns-in-Err-clause-takes : goal.returns-in-Err-clause-takes
returns-in-Err-clause-takes g c =
    goes-broken g.F.Tree c.args.steps.items c.loop-step.steps.items c.pop_front.new.self.items c.in-Some.step c.args.tree.now c.loop-step.tree c.take.new.tree c.in-Err.fault c.in-Some.ensures.items c.loop-step.invariant.goes c.in-Err.ensures.takes

pub returns-clause-takes : goal.returns-clause-takes
returns-clause-takes g c = goes-all g.F.Tree c.args.steps.items c.loop-step.steps.items c.args.tree.now c.loop-step.tree (search rules) c.loop-step.invariant.goes
