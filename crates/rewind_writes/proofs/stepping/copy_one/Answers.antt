use Rattle.std.proofs.Common.{ap, Err}
use Rattle.cluster_tree.specs.Contents.{entry_at}
use Rattle.marked_runs.specs.Runs.{writes_at}
use Rattle.marked_runs.proofs.CarriedLemmas.{performs-broken, performs-done}
use Rattle.rewind_writes.specs.Steps.{part_of}
use Rattle.rewind_writes.proofs.CopyLemmas.{range-read}
use Rattle.rewind_writes.proofs.stepping.copy_one.Goals as goal

pub returns-in-Ok-clause-takes : goal.returns-in-Ok-clause-takes
returns-in-Ok-clause-takes g c = λ d found as_found.
    performs-done g.F.Tree (writes_at c.args.to c.args.at (part_of d c.args.from.now c.args.at c.args.size)) _ _ _
    (c.in-Ok.ensures.carries (part_of d c.args.from.now c.args.at c.args.size) (range-read d _ c.args.from.now c.args.at c.args.size (entry_at (g.F.Tree.contents c.args.tree.now) c.args.from.now) as_found found) found.kept)

pub returns-in-Err-clause-takes : goal.returns-in-Err-clause-takes
returns-in-Err-clause-takes g c = λ d found as_found.
    performs-broken g.F.Tree (writes_at c.args.to c.args.at (part_of d c.args.from.now c.args.at c.args.size)) _ _ c.in-Err.fault c.args.to _ (ap Err c.about.ensures)
    (c.in-Err.ensures.carries (part_of d c.args.from.now c.args.at c.args.size) (range-read d _ c.args.from.now c.args.at c.args.size (entry_at (g.F.Tree.contents c.args.tree.now) c.args.from.now) as_found found) found.kept)
