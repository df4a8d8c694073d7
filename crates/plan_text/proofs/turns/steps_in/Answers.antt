use Rattle.std.proofs.Common.{◌≡◌, ◌∙◌, Some, length, length-append, drop, map, ap, sym, arith, ◌∷◌, []}
use Rattle.std.proofs.lemmas.List.{length-map}
use Rattle.plan_text.specs.Reading.{first_step, steps_in}
use Rattle.mark_lines.proofs.LineLemmas.{behind}
use Rattle.plan_text.proofs.StepLemmas.{no_step, one_step, one_within}
use Rattle.plan_text.proofs.turns.steps_in.Goals as goal

pub loop-steps-preserved : goal.loop-steps-preserved
loop-steps-preserved c =
    let target = c.args.roots.now.target.now in
    let source = c.args.roots.now.source.now in
    let pieces = map (λ piece. piece.now) c.args.pieces.now in
    let done = c.loop-steps.steps.items in
    let sized = c.loop-steps.steps.ok.0 in
    let e : Some c.in-Some.step ≡ first_step target source c.loop-steps.least (drop (length done) pieces) =
    sym c.in-Some.is ∙ c.in_ok-step.ensures ∙ ap (first_step target source c.loop-steps.least) (behind (λ piece. piece.now) c.args.pieces.now c.len.result (length done) (c.len.ensures ∙ sized)) in
    let pushed = c.in_ok-push_back.ensures.items in
    record {
      within = omega (arith, one_within target source c.loop-steps.least (length done) pieces c.in-Some.step e, ap length pushed, length-append done (c.in-Some.step ∷ []), length-map c.args.pieces.now (λ piece. piece.now));
      steps = one_step target source c.loop-steps.least c.turn-least.result done c.push_back.new.self.items (steps_in target source 0 pieces) pieces c.in-Some.step e
          c.loop-steps.invariant.steps pushed c.turn-least.ensures;
    }

pub returns-clause-steps : goal.returns-clause-steps
returns-clause-steps c =
    let target = c.args.roots.now.target.now in
    let source = c.args.roots.now.source.now in
    let pieces = map (λ piece. piece.now) c.args.pieces.now in
    let done = c.loop-steps.steps.items in
    let sized = c.loop-steps.steps.ok.0 in
    no_step target source c.loop-steps.least done (steps_in target source 0 pieces) pieces
    (sym c.in_default.is ∙ c.in_ok-step.ensures ∙ ap (first_step target source c.loop-steps.least) (behind (λ piece. piece.now) c.args.pieces.now c.len.result (length done) (c.len.ensures ∙ sized)))
    c.loop-steps.invariant.steps
