use Rattle.std.proofs.Common.{◌≡◌, ◌++◌, true, map, string_bytes}
use Rattle.plan_text.specs.Laws.{AllAreSized, are_texts}
use Rattle.plan_text.specs.Text.{step_lines}
use Rattle.plan_text.proofs.writing.add_steps.Given as goal

abbrev pub invariant-loop-step : goal.invariant-loop-step
invariant-loop-step l = record {
  lines : string_bytes l.text ≡ string_bytes l.initial.text ++ step_lines l.root (map (λ step. step.now) l.yielded);
  texts : are_texts l.root (map (λ step. step.now) l.yielded) ≡ true;
  sizes : AllAreSized (map (λ step. step.now) l.yielded);
}
