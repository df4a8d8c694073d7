use Rattle.std.proofs.Common.{◌∙◌, inl, inr}
use Rattle.reset_plan.proofs.ReadyLemmas.{at-status, both-is, both-refused, deep-status, gathered, gathered-of, names-stand, still-there}
use Rattle.reset_plan.proofs.plan.files_gone.Goals as goal

pub both_gone-requires-clause-below : goal.both_gone-requires-clause-below
both_gone-requires-clause-below g c = deep-status c.args.wal.now c.in-Ok.folder c.requires.depth c.in-Ok.ensures.is

pub both_gone-requires-clause-there : goal.both_gone-requires-clause-there
both_gone-requires-clause-there g c told = still-there (g.F.Tree.contents c.args.tree.now) (g.F.Tree.contents c.status_names.new.tree) c.args.wal.now c.args.names.now c.status_names.ensures.reads.same (c.requires.there told)

pub both_gone-requires-clause-stand : goal.both_gone-requires-clause-stand
both_gone-requires-clause-stand g c told = names-stand (g.F.Tree.contents c.args.tree.now) (g.F.Tree.contents c.status_names.new.tree) c.in-Ok.folder c.in-Ok-status_names.statuses c.status_names.ensures.reads.same (c.in-Ok-status_names.ensures.names told)

pub returns-in-Err-clause-exact : goal.returns-in-Err-clause-exact
returns-in-Err-clause-exact g c told = inl (inr (inr c.in-Err.ensures.memory))

pub returns-in-Err-status_names-clause-exact : goal.returns-in-Err-status_names-clause-exact
returns-in-Err-status_names-clause-exact g c told = at-status (g.F.Tree.contents c.args.tree.now) c.args.wal.now c.in-Ok.folder c.args.names.now c.in-Err-status_names.fault c.in-Ok.ensures.is (c.in-Err-status_names.ensures.exact told)

pub returns-in-Ok-both_gone-clause-exact : goal.returns-in-Ok-both_gone-clause-exact
returns-in-Ok-both_gone-clause-exact g c told = both-is (g.F.Tree.contents c.args.tree.now) (g.F.Tree.contents c.status_names.new.tree) c.args.wal.now c.in-Ok.folder c.args.names.now c.in-Ok-status_names.statuses c.status_names.ensures.reads.same c.in-Ok.ensures.is (c.in-Ok-status_names.ensures.names told) (c.in-Ok-status_names.ensures.exact told) ∙ c.in-Ok-both_gone.ensures.exact told

pub returns-clause-exact : goal.returns-clause-exact
returns-clause-exact g c told = both-refused (g.F.Tree.contents c.args.tree.now) (g.F.Tree.contents c.status_names.new.tree) c.args.wal.now c.in-Ok.folder c.args.names.now c.in-Ok-status_names.statuses c.in-Err-both_gone.fault c.status_names.ensures.reads.same c.in-Ok.ensures.is (c.in-Ok-status_names.ensures.names told) (c.in-Ok-status_names.ensures.exact told) (c.in-Err-both_gone.ensures.exact told)

pub returns-in-Ok-both_gone-clause-gone : goal.returns-in-Ok-both_gone-clause-gone
returns-in-Ok-both_gone-clause-gone g c told = gathered (g.F.Tree.contents c.args.tree.now) c.args.wal.now c.in-Ok.folder c.args.names.now c.in-Ok-status_names.statuses c.in-Ok-both_gone.gone.items c.in-Ok.ensures.is (c.in-Ok-status_names.ensures.names told) c.in-Ok-both_gone.ensures.gone

pub returns-in-Ok-both_gone-clause-form : goal.returns-in-Ok-both_gone-clause-form
returns-in-Ok-both_gone-clause-form g c = (c.in-Ok-status_names.statuses, gathered-of c.args.wal.now c.in-Ok.folder c.args.names.now c.in-Ok-status_names.statuses c.in-Ok-both_gone.gone.items c.in-Ok.ensures.is c.in-Ok-both_gone.ensures.gone)
