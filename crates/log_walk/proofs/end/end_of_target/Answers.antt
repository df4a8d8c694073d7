use Rattle.std.proofs.Common.{◌≡◌, ◌∙◌, Some, Result, Err, ap, rules, subst, sym}
use Rattle.std.proofs.lemmas.Result.{err_from_is_err_and}
use Rattle.cluster_tree.specs.Causes.{Meets}
use Rattle.wal_base.specs.declared.lsn.Lsn.{Lsn}
use Rattle.wal_base.specs.Segment.{bytes_of}
use Rattle.wal_records.specs.Further.{pages_of}
use Rattle.log_walk.specs.declared.fault.LogWalkFault.{LogWalkFault}
use Rattle.log_walk.specs.Faults.{IsFree}
use Rattle.log_walk.specs.First.{end_of_target}
use Rattle.log_walk.proofs.StepLemmas.{current_is, end_refused, end_told}
use Rattle.log_walk.proofs.end.end_of_target.Goals as goal

pub returns-in_err-read_first-clause-exact : goal.returns-in_err-read_first-clause-exact
returns-in_err-read_first-clause-exact g c = λ told.
    let pages = pages_of c.args.cursor.now.log (g.F.Tree.contents c.args.tree.now) in
    let size = bytes_of c.args.cursor.now.log.size in
    let ended = err_from_is_err_and c.from_residual.result c.from_residual.ensures.1 in
    let is = ended.1 ∙ ap (λ (x : LogWalkFault). Err x) ended.2 in
    subst (λ (k : Result Lsn LogWalkFault). Meets IsFree (end_of_target pages size c.args.target.now) k) (sym is)
    (end_refused pages size c.args.target.now c.in_err-read_first.field-0.0 (c.in_err-read_first.ensures.first told))

pub returns-clause-exact : goal.returns-clause-exact
returns-clause-exact g c = λ told.
    let there : c.read_first.new.cursor.current ≡ Some c.unwrap-rec.result.now = search rules in
    let first = current_is c.read_first.new.cursor.current _ c.unwrap-rec.result.now there (c.in_ok-read_first.ensures.first told) in
    end_told (pages_of c.args.cursor.now.log (g.F.Tree.contents c.args.tree.now)) (bytes_of c.args.cursor.now.log.size) c.args.target.now c.unwrap-rec.result.now _ first (search rules)
