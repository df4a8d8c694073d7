use Rattle.cluster_tree.specs.Contents.{entry_at}
use Rattle.reset_plan.proofs.ListingLemmas.{listed_names, listed_status, status_from, status_names-from}
use Rattle.reset_plan.proofs.removals.status_names.Goals as goal

pub returns-in-Ok-clause-exact : goal.returns-in-Ok-clause-exact
returns-in-Ok-clause-exact g c told = listed_status c.args.folder.now (entry_at (g.F.Tree.contents c.args.tree.now) c.args.folder.now) (c.in-Ok.ensures.refused told)

pub returns-in-Ok-clause-names : goal.returns-in-Ok-clause-names
returns-in-Ok-clause-names g c told = listed_names (g.F.Tree.contents c.args.tree.now) c.args.folder.now c.in-Ok.names (c.in-Ok.ensures.refused told) (c.in-Ok.ensures.names told)

pub returns-in-Err-clause-exact : goal.returns-in-Err-clause-exact
returns-in-Err-clause-exact g c told = status_from c.args.folder.now (entry_at (g.F.Tree.contents c.args.tree.now) c.args.folder.now) c.in-Err.fault c.unlisted.result (c.in-Err.ensures.refused told) c.unlisted.ensures.told

pub returns-in-Err-clause-names : goal.returns-in-Err-clause-names
returns-in-Err-clause-names g c told = status_names-from (g.F.Tree.contents c.args.tree.now) c.args.folder.now c.in-Err.fault c.unlisted.result (c.in-Err.ensures.refused told) c.unlisted.ensures.told c.unlisted.ensures.none
