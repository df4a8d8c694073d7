use Rattle.std.proofs.Common.{◌∙◌, Ok, ap, sym, map, length}
use Rattle.mark_lines.specs.Lines.{and_then}
use Rattle.replay_list.specs.Reading.{listed_from}
use Rattle.replay_list.proofs.FrontLemmas.{closed, closing_behind}
use Rattle.replay_list.proofs.FaultLemmas.{fault_kept}
use Rattle.replay_list.proofs.reading.listed_from.Goals as goal

pub returns-in-Ok : goal.returns-in-Ok
returns-in-Ok c =
    let pieces = map (λ piece. piece.now) c.args.pieces.now in
    let listed = c.in_ok-listed.listed.items in
    let sized = c.in_ok-listed.listed.ok.0 in
    let same = closing_behind (λ piece. piece.now) c.args.pieces.now c.len.result c.len-2.result (length listed) (c.len.ensures ∙ sized) (c.len-2.ensures ∙ sized) in
    closed c.args.root.now pieces listed c.in_ok-listed.ensures.listed ∙ ap (λ r. and_then r (λ end. Ok listed)) (sym same ∙ c.in-Ok.ensures)

pub returns-in-Err : goal.returns-in-Err
returns-in-Err c =
    let pieces = map (λ piece. piece.now) c.args.pieces.now in
    let listed = c.in_ok-listed.listed.items in
    let sized = c.in_ok-listed.listed.ok.0 in
    let same = closing_behind (λ piece. piece.now) c.args.pieces.now c.len.result c.len-2.result (length listed) (c.len.ensures ∙ sized) (c.len-2.ensures ∙ sized) in
    fault_kept _ (listed_from c.args.root.now pieces) c.in-Err.fault
    (λ k e. closed c.args.root.now pieces listed c.in_ok-listed.ensures.listed ∙ ap (λ r. and_then r (λ end. Ok listed)) (sym same ∙ e)) c.in-Err.ensures
