use Rattle.std.proofs.Common.{◌-◌, ◌^◌, arith, sym, subst}
use Rattle.rewind_writes.specs.Steps.{AllAreFit}
use Rattle.rewind_plan.specs.Blocks.{AllEnd, range_step}
use Rattle.rewind_plan.proofs.CodeLemmas.{ends-last, ranges-more}
use Rattle.rewind_plan.proofs.files.put_ranges.Goals as goal

pub range-requires : goal.range-requires
range-requires c =
    let ends = ends-last (2 ^ 51 - 1) c.pop_back.new.self.items c.in-Some.run' (subst (AllEnd (2 ^ 51 - 1)) c.in-Some.ensures.items c.loop-run.invariant.ends) in
    record { ends = omega (arith, ends.1) }

pub loop-run-preserved : goal.loop-run-preserved
loop-run-preserved c = record {
  done = ranges-more (range_step c.args.from.now c.args.to.now) c.loop-run.runs.items c.pop_back.new.self.items c.in-Some.run' c.in_ok-range.field-0 c.loop-run.steps.items c.push_front.new.self.items _ c.in-Some.ensures.items c.in_ok-range.ensures.step c.in_ok-push_front.ensures.items c.loop-run.invariant.done;
  fit = λ before. subst AllAreFit (sym c.in_ok-push_front.ensures.items) (c.in_ok-range.ensures.fit, c.loop-run.invariant.fit before);
  ends = (ends-last (2 ^ 51 - 1) c.pop_back.new.self.items c.in-Some.run' (subst (AllEnd (2 ^ 51 - 1)) c.in-Some.ensures.items c.loop-run.invariant.ends)).0;
}
