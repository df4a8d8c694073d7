use Rattle.std.proofs.Common.{length, sym, ◌∙◌, arith}
use Rattle.timeline_history.proofs.ForkLemmas.{shared_is, agree_past}
use Rattle.timeline_history.proofs.parting.shared_len.Goals as goal

pub returns-then-not-agrees_at : goal.returns-then-not-agrees_at
returns-then-not-agrees_at c =
    sym (shared_is c.args.a.now c.args.b.now c.loop-at.at c.loop-at.invariant (sym c.if-not-agrees_at.ensures))

pub returns : goal.returns
returns c =
    c.len.ensures.value
    ∙ sym (shared_is c.args.a.now c.args.b.now (length c.args.a.now) (λ k l. c.loop-at.invariant k (omega (arith, c.len-at-end.ensures.value)))
    (agree_past c.args.a.now c.args.b.now (length c.args.a.now) (omega arith)))
