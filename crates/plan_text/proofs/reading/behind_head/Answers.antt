use Rattle.std.proofs.Common.{◌∙◌, Ok, ap, sym, subst, map, length}
use Rattle.rewind_writes.specs.Steps.{AllAreFit}
use Rattle.mark_lines.specs.Lines.{and_then}
use Rattle.plan_text.specs.Reading.{behind_head, with_closing}
use Rattle.plan_text.proofs.StepLemmas.{steps_are_fit}
use Rattle.plan_text.proofs.ReadingLemmas.{closed, closing_behind, fault_kept}
use Rattle.plan_text.proofs.reading.behind_head.Goals as goal

pub returns-in_ok-plan-in-Ok-clause-said : goal.returns-in_ok-plan-in-Ok-clause-said
returns-in_ok-plan-in-Ok-clause-said c =
    let pieces = map (λ piece. piece.now) c.args.pieces.now in
    let n = length c.in_ok-steps.steps.items in
    let sized = c.in_ok-steps.steps.ok.0 in
    let same = closing_behind (λ piece. piece.now) c.args.pieces.now c.len.result c.len-2.result n (c.len.ensures ∙ sized) (c.len-2.ensures ∙ sized) in
    let is = c.in_ok-plan-in-Ok.ensures in
    closed c.args.roots.now.target.now c.args.roots.now.source.now c.args.head.0 c.args.head.1 pieces c.in_ok-steps.steps.items c.in_ok-steps.ensures.steps
    ∙ ap (λ r. and_then r (λ closing. Ok (with_closing c.args.head.0 c.args.head.1 c.in_ok-steps.steps.items closing))) (sym same ∙ c.in-Ok.ensures)
    ∙ (λ i. Ok (record { source = c.args.head.0; told = c.args.head.1; steps = sym is.steps i; label = sym is.label i; control = sym is.control i }))

pub returns-in_ok-plan-in-Ok-clause-fit : goal.returns-in_ok-plan-in-Ok-clause-fit
returns-in_ok-plan-in-Ok-clause-fit c =
    let P = AllAreFit in
    subst P (sym (c.in_ok-plan-in-Ok.ensures.steps ∙ c.in_ok-steps.ensures.steps))
    (steps_are_fit c.args.roots.now.target.now c.args.roots.now.source.now 0 (map (λ piece. piece.now) c.args.pieces.now))

pub returns-in-Err-clause-said : goal.returns-in-Err-clause-said
returns-in-Err-clause-said c =
    let pieces = map (λ piece. piece.now) c.args.pieces.now in
    let n = length c.in_ok-steps.steps.items in
    let sized = c.in_ok-steps.steps.ok.0 in
    let same = closing_behind (λ piece. piece.now) c.args.pieces.now c.len.result c.len-2.result n (c.len.ensures ∙ sized) (c.len-2.ensures ∙ sized) in
    let whole = closed c.args.roots.now.target.now c.args.roots.now.source.now c.args.head.0 c.args.head.1 pieces c.in_ok-steps.steps.items c.in_ok-steps.ensures.steps in
    fault_kept _ (behind_head c.args.roots.now.target.now c.args.roots.now.source.now c.args.head.0 c.args.head.1 pieces) c.in-Err.fault
    (λ k e. whole ∙ ap (λ r. and_then r (λ closing. Ok (with_closing c.args.head.0 c.args.head.1 c.in_ok-steps.steps.items closing))) (sym same ∙ e)) c.in-Err.ensures
