use Rattle.std.proofs.Common.{sym, ◌∙◌, arith}
use Rattle.timeline_history.proofs.ForkLemmas.{no_fork, fork_is}
use Rattle.timeline_history.proofs.parting.fork.Goals as goal

pub returns-then-shared-eq0 : goal.returns-then-shared-eq0
returns-then-shared-eq0 c = no_fork c.args.a.now c.args.b.now (sym c.shared_len-shared.ensures ∙ c.if-shared-eq0.true)

pub returns : goal.returns
returns c =
    c.fork_between.ensures
    ∙ rw (c.get.ensures.value, c.get-2.ensures.value) (fork_is c.args.a.now c.args.b.now c.shared_len-shared.result c.shared_len-shared.ensures (omega arith))
