use Rattle.std.proofs.Common.{arith, sym, subst, ◌∷◌, []}
use Rattle.std.proofs.lemmas.Grind.{common_steps}
use Rattle.std.proofs.lemmas.List.{map-append}
use Rattle.plan_text.specs.Laws.{AllAreSized}
use Rattle.plan_text.proofs.HeldLemmas.{sized-more}
use Rattle.plan_text.proofs.writing.add_steps.Goals as goal

pub loop-step-preserved : goal.loop-step-preserved
loop-step-preserved c = record {
  lines = grind (arith, common_steps, c.loop-step.invariant.lines, c.in_ok-add_step.ensures.line);
  texts = grind (arith, common_steps, c.loop-step.invariant.texts, c.in_ok-add_step.ensures.text);
  sizes = subst AllAreSized (sym (map-append (λ step. step.now) c.loop-step.yielded (c.in-Some.step ∷ []))) (sized-more _ _ c.loop-step.invariant.sizes c.in_ok-add_step.ensures.size);
}
