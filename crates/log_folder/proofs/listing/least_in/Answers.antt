use Rattle.log_folder.proofs.ListLemmas.{least_listed}
use Rattle.log_folder.proofs.listing.least_in.Goals as goal

pub returns-in-Ok-clause-exact : goal.returns-in-Ok-clause-exact
returns-in-Ok-clause-exact g c tells =
    least_listed (g.F.Tree.contents c.args.tree.now) _ c.args.folder.now c.in-Ok.names c.first_segment.result c.list.ensures.frame.same (c.in-Ok.ensures.refused tells) (c.in-Ok.ensures.names tells) (c.first_segment.ensures.exact tells) c.first_segment.ensures.free
