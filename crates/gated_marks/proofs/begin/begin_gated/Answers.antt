use Rattle.std.proofs.Common.{◌++◌, length}
use Rattle.marked_runs.proofs.CarriedLemmas.{carried-front, carried-then}
use Rattle.gated_marks.specs.Changes.{gate_opened, head_laid, text_laid}
use Rattle.gated_marks.proofs.BeginLemmas.{begun-head, gate-left, gate-synced, mark-head, text-left}
use Rattle.gated_marks.proofs.begin.begin_gated.Goals as goal

pub returns-in-Ok-lay_text-clause-carries : goal.returns-in-Ok-lay_text-clause-carries
returns-in-Ok-lay_text-clause-carries g c =
    let first = head_laid (g.F.Tree.contents c.args.tree.now) c.args.mark.now c.args.head.now in
    let second = text_laid c.args.mark.now (length c.args.head.now) c.args.text.now in
    carried-then g.F.Tree (first ++ second) (gate_opened c.args.mark.now c.args.gate) _ _ _ _ _ (carried-then g.F.Tree first second _ _ _ _ _ c.in-Ok.ensures.carries c.in-Ok-lay_text.ensures.carries) c.open_gate.ensures.carries

pub returns-in-Err-lay_text-clause-carries : goal.returns-in-Err-lay_text-clause-carries
returns-in-Err-lay_text-clause-carries g c =
    let first = head_laid (g.F.Tree.contents c.args.tree.now) c.args.mark.now c.args.head.now in
    let second = text_laid c.args.mark.now (length c.args.head.now) c.args.text.now in
    carried-front g.F.Tree (first ++ second) (gate_opened c.args.mark.now c.args.gate) _ _ _ (carried-then g.F.Tree first second _ _ _ _ _ c.in-Ok.ensures.carries c.in-Err-lay_text.ensures.carries)

pub returns-in-Err-clause-carries : goal.returns-in-Err-clause-carries
returns-in-Err-clause-carries g c =
    let first = head_laid (g.F.Tree.contents c.args.tree.now) c.args.mark.now c.args.head.now in
    let second = text_laid c.args.mark.now (length c.args.head.now) c.args.text.now in
    carried-front g.F.Tree (first ++ second) (gate_opened c.args.mark.now c.args.gate) _ _ _ (carried-front g.F.Tree first second _ _ _ c.in-Err.ensures.carries)

pub returns-in-Ok-lay_text-clause-any_moment : goal.returns-in-Ok-lay_text-clause-any_moment
returns-in-Ok-lay_text-clause-any_moment g c = λ told none.
    let first = begun-head (g.F.Tree.contents c.args.tree.now) c.args.mark.now c.args.head.now c.args.gate c.args.text.now none in
    gate-left g.F.Tree c.args.mark.now c.args.head.now c.args.gate c.args.text.now c.requires.gate c.requires.shut _ _ _ (c.in-Ok.ensures.synced told first) c.in-Ok.ensures.frame c.in-Ok-lay_text.ensures.frame (c.in-Ok.ensures.any_moment told first)
    (c.in-Ok-lay_text.ensures.synced told) _ c.open_gate.ensures.frame (c.in-Ok-lay_text.ensures.any_moment told) (c.open_gate.ensures.any_moment told)

pub returns-in-Ok-lay_text-clause-synced : goal.returns-in-Ok-lay_text-clause-synced
returns-in-Ok-lay_text-clause-synced g c = λ told none.
    let first = begun-head (g.F.Tree.contents c.args.tree.now) c.args.mark.now c.args.head.now c.args.gate c.args.text.now none in
    gate-synced g.F.Tree c.args.mark.now c.args.head.now c.args.gate c.args.text.now c.requires.gate c.requires.shut _ _ _ (c.in-Ok.ensures.synced told first) c.in-Ok.ensures.frame c.in-Ok-lay_text.ensures.frame (c.in-Ok.ensures.any_moment told first)
    (c.in-Ok-lay_text.ensures.synced told) _ _ (c.open_gate.ensures.synced told)

pub returns-in-Err-lay_text-clause-any_moment : goal.returns-in-Err-lay_text-clause-any_moment
returns-in-Err-lay_text-clause-any_moment g c = λ told none.
    let first = begun-head (g.F.Tree.contents c.args.tree.now) c.args.mark.now c.args.head.now c.args.gate c.args.text.now none in
    text-left g.F.Tree c.args.mark.now c.args.head.now c.args.gate c.args.text.now c.requires.gate c.requires.shut _ _ _ (c.in-Ok.ensures.synced told first) c.in-Ok.ensures.frame c.in-Err-lay_text.ensures.frame (c.in-Ok.ensures.any_moment told first)
    (c.in-Err-lay_text.ensures.any_moment told)

pub returns-in-Err-clause-any_moment : goal.returns-in-Err-clause-any_moment
returns-in-Err-clause-any_moment g c = λ told none.
    let first = begun-head (g.F.Tree.contents c.args.tree.now) c.args.mark.now c.args.head.now c.args.gate c.args.text.now none in
    mark-head g.F.Tree c.args.mark.now c.args.head.now c.args.gate c.args.text.now c.requires.gate c.requires.shut _ _ (c.in-Err.ensures.any_moment told first)
