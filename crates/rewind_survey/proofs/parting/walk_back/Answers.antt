use Rattle.std.proofs.lemmas.Result.{err_from_is_err_and}
use Rattle.wal_base.specs.Segment.{bytes_of}
use Rattle.wal_records.specs.Further.{pages_of}
use Rattle.rewind_survey.proofs.StageLemmas.{handed-plan, read_at, walk_plan, walk_refused}
use Rattle.rewind_survey.proofs.parting.walk_back.Goals as goal

pub returns-in_err-found-clause-exact : goal.returns-in_err-found-clause-exact
returns-in_err-found-clause-exact g c tells =
    handed-plan _ c.from_residual.result _ (err_from_is_err_and c.from_residual.result c.from_residual.ensures.1)
    (walk_refused (pages_of c.args.cursor.now.log (g.F.Tree.contents c.args.tree.now)) (bytes_of c.args.size)
    c.args.fork c.args.end.0 _ (c.in_err-found.ensures.exact tells))

pub returns-clause-exact : goal.returns-clause-exact
returns-clause-exact g c tells =
    walk_plan (pages_of c.args.cursor.now.log (g.F.Tree.contents c.args.tree.now)) (bytes_of c.args.size)
    c.args.fork c.args.end.0 c.in_ok-found.found c.read_from.result (c.in_ok-found.ensures.exact tells)
    (read_at c.args.size c.args.fork c.read_from.result c.args.end.0 c.in_ok-found.found
    c.common_checkpoint.ensures.log c.common_checkpoint.ensures.reads.same c.requires.size (c.read_from.ensures.exact tells))
