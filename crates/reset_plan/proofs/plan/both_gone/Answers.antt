use Rattle.reset_plan.proofs.ReadyLemmas.{both-first, both-none, both-second}
use Rattle.reset_plan.proofs.plan.both_gone.Goals as goal

pub returns-in-Err-clause-exact : goal.returns-in-Err-clause-exact
returns-in-Err-clause-exact g c told = both-first (g.F.Tree.contents c.args.tree.now) c.args.wal.now c.args.names.now c.args.folder.now c.args.statuses.now c.in-Err.fault (c.in-Err.ensures.exact told)

pub returns-in-Err-added-clause-exact : goal.returns-in-Err-added-clause-exact
returns-in-Err-added-clause-exact g c told = both-second (g.F.Tree.contents c.args.tree.now) (g.F.Tree.contents c.add_all.new.tree) c.args.wal.now c.args.names.now c.args.folder.now c.args.statuses.now c.in-Err-added.fault c.add_all.ensures.reads.same (c.in-Ok.ensures.exact told) (c.in-Err-added.ensures.exact told)

pub returns-in-Ok-added-clause-exact : goal.returns-in-Ok-added-clause-exact
returns-in-Ok-added-clause-exact g c told = both-none (g.F.Tree.contents c.args.tree.now) (g.F.Tree.contents c.add_all.new.tree) c.args.wal.now c.args.names.now c.args.folder.now c.args.statuses.now c.add_all.ensures.reads.same (c.in-Ok.ensures.exact told) (c.in-Ok-added.ensures.exact told)
