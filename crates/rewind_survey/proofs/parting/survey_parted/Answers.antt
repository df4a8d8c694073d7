use Rattle.std.proofs.Common.{Ok}
use Rattle.std.proofs.lemmas.Result.{err_from_is_err_and}
use Rattle.wal_base.specs.Segment.{bytes_of}
use Rattle.wal_records.specs.Further.{pages_of}
use Rattle.log_walk.specs.First.{end_of_target}
use Rattle.rewind_survey.specs.Faults.{walked}
use Rattle.rewind_survey.proofs.StageLemmas.{end_plan, end_refused, handed-plan, past_plan, size_at, size_or, walked_at}
use Rattle.rewind_survey.proofs.parting.survey_parted.Goals as goal

pub returns-in_err-end-clause-exact : goal.returns-in_err-end-clause-exact
returns-in_err-end-clause-exact g c tells =
    let pages = pages_of c.args.cursor.now.log (g.F.Tree.contents c.args.tree.now) in
    handed-plan _ c.from_residual.result _ (err_from_is_err_and c.from_residual.result c.from_residual.ensures.1)
    (end_refused pages (bytes_of c.args.size) c.args.fork c.args.target.now _
    (size_or (λ n. walked (end_of_target pages n c.args.target.now)) _ _ c.args.size c.args.cursor.now.log.size c.requires.size (c.in_err-end.ensures.exact tells)))

pub returns-then-end-fork-clause-exact : goal.returns-then-end-fork-clause-exact
returns-then-end-fork-clause-exact g c tells =
    let pages = pages_of c.args.cursor.now.log (g.F.Tree.contents c.args.tree.now) in
    end_plan pages (bytes_of c.args.size) c.args.fork c.args.target.now c.in_ok-end.end
    (size_at (λ n. walked (end_of_target pages n c.args.target.now)) (Ok c.in_ok-end.end) c.args.size c.args.cursor.now.log.size c.requires.size (c.in_ok-end.ensures.exact tells))
    c.if-end-fork.true

pub returns-clause-exact : goal.returns-clause-exact
returns-clause-exact g c tells =
    let pages = pages_of c.args.cursor.now.log (g.F.Tree.contents c.args.tree.now) in
    past_plan pages (bytes_of c.args.size) c.args.fork c.args.target.now c.in_ok-end.end c.walk_back.result
    (size_at (λ n. walked (end_of_target pages n c.args.target.now)) (Ok c.in_ok-end.end) c.args.size c.args.cursor.now.log.size c.requires.size (c.in_ok-end.ensures.exact tells))
    c.if-end-fork.false
    (walked_at c.args.size c.args.fork c.walk_back.result c.in_ok-end.end.0
    c.end_of_target.ensures.log c.end_of_target.ensures.reads.same (c.walk_back.ensures.exact tells))
