use Rattle.std.proofs.Common.{ap, option_map}
use Rattle.cluster_tree.specs.Contents.{entry_at}
use Rattle.cluster_tree.proofs.NamesLemmas.{listing_names}
use Rattle.reset_plan.specs.ResetFaults.{folder_fault}
use Rattle.reset_plan.proofs.ListingLemmas.{wal_from}
use Rattle.reset_plan.proofs.preparing.wal_names.Goals as goal

pub returns-in-Ok-clause-exact : goal.returns-in-Ok-clause-exact
returns-in-Ok-clause-exact g c told = ap (option_map (folder_fault c.args.wal.now)) (c.in-Ok.ensures.refused told)

pub returns-in-Ok-clause-names : goal.returns-in-Ok-clause-names
returns-in-Ok-clause-names g c told = listing_names (g.F.Tree.contents c.args.tree.now) c.args.wal.now c.in-Ok.names (c.in-Ok.ensures.names told)

pub returns-in-Err-clause-exact : goal.returns-in-Err-clause-exact
returns-in-Err-clause-exact g c told = wal_from c.args.wal.now (entry_at (g.F.Tree.contents c.args.tree.now) c.args.wal.now) c.in-Err.fault c.listing_fault.result (c.in-Err.ensures.refused told) c.listing_fault.ensures.value
