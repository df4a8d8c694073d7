use Rattle.std.proofs.Common.{ap, Err, sym, ◌∙◌}
use Rattle.cluster_tree.specs.Change.{MakesFile}
use Rattle.marked_runs.specs.Settled.{settled}
use Rattle.marked_runs.proofs.CarriedLemmas.{carried-one}
use Rattle.rewind_writes.proofs.copying.make_file.Goals as goal

pub returns-in-Ok-clause-carries : goal.returns-in-Ok-clause-carries
returns-in-Ok-clause-carries g c = carried-one g.F.Tree (MakesFile c.args.path.now) _ _ c.make_file.result _ (sym (ap settled c.in-Ok.is)) c.make_file.ensures.refused c.make_file.ensures.file c.make_file.ensures.made

pub returns-in-Err-clause-carries : goal.returns-in-Err-clause-carries
returns-in-Err-clause-carries g c = carried-one g.F.Tree (MakesFile c.args.path.now) _ _ c.make_file.result _ (ap Err c.of_change.ensures ∙ sym (ap settled c.in-Err.is)) c.make_file.ensures.refused c.make_file.ensures.file c.make_file.ensures.made
