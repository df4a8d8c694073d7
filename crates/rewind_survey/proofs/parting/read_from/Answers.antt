use Rattle.std.proofs.Common.{refl}
use Rattle.std.proofs.lemmas.Result.{err_from_is_err_and}
use Rattle.wal_base.specs.Segment.{bytes_of}
use Rattle.wal_records.specs.Further.{pages_of}
use Rattle.rewind_survey.proofs.StageLemmas.{handed-plan, read_parted, read_refused}
use Rattle.rewind_survey.proofs.parting.read_from.Goals as goal

pub returns-in_err-touched-clause-exact : goal.returns-in_err-touched-clause-exact
returns-in_err-touched-clause-exact g c tells =
    handed-plan _ c.from_residual.result _ (err_from_is_err_and c.from_residual.result c.from_residual.ensures.1)
    (read_refused (pages_of c.args.cursor.now.log (g.F.Tree.contents c.args.tree.now)) (bytes_of c.args.cursor.now.log.size)
    c.args.fork c.args.end.0 c.args.found _ (c.in_err-touched.ensures.exact tells))

pub returns-clause-exact : goal.returns-clause-exact
returns-clause-exact g c tells =
    read_parted (pages_of c.args.cursor.now.log (g.F.Tree.contents c.args.tree.now)) (bytes_of c.args.cursor.now.log.size)
    c.args.fork c.args.end.0 c.args.found _ c.in_ok-touched.touched
    (c.in_ok-touched.ensures.exact tells) (c.in_ok-touched.ensures.marks tells) refl
