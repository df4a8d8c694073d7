use Rattle.std.proofs.Common.{subst}
use Rattle.stored_replay.specs.Stored.{Tells, told_as}
use Rattle.stored_replay.proofs.stored.told_in.Goals as goal

pub returns-in-Ended-clause-tells : goal.returns-in-Ended-clause-tells
returns-in-Ended-clause-tells g c told =
    subst (λ mark. Tells (told_as (g.F.Tree.contents c.args.tree.now) c.args.root.now c.args.bytes.now mark) c.ended_in.result) c.in-Ended.ensures.value (c.ended_in.ensures.tells (g.F.Tree.contents c.args.tree.now))
