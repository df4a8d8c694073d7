use Rattle.std.proofs.Common.{◌≡◌, ◌⊎◌, cond, None, Some, subst}
use Rattle.std.proofs.lemmas.Result.{err_from_is_err_and}
use Rattle.clusters.specs.Faults.{IsFree}
use Rattle.clusters.specs.Marks.{unfinished}
use Rattle.without_file.specs.Without.{without_file}
use Rattle.stored_replay.specs.Marks.{Finds}
use Rattle.stored_replay.proofs.MarkLemmas.{handed-mark, mark-found, mark-refused, own-deep}
use Rattle.stored_replay.proofs.marks.mark_at.Goals as goal

pub check_seen-requires-clause-deep : goal.check_seen-requires-clause-deep
check_seen-requires-clause-deep g c = own-deep c.args.root.now c.in_ok-mark.mark c.in_ok-mark.ensures.is

pub returns-in_err-check_seen-clause-found : goal.returns-in_err-check_seen-clause-found
returns-in_err-check_seen-clause-found g c told =
    handed-mark (Finds _) c.from_residual-in_err-check_seen.result c.in_err-check_seen.field-0.0 (err_from_is_err_and c.from_residual-in_err-check_seen.result c.from_residual-in_err-check_seen.ensures.1)
    (mark-refused (g.F.Tree.contents c.args.tree.now) c.args.root.now c.in_ok-mark.mark c.in_ok-copy.field-0 c.in_ok-bytes.bytes c.is_old.result c.in_ok-mark.ensures.is c.in_ok-copy.ensures (c.in_ok-bytes.ensures.found told) c.is_old.ensures c.in_err-check_seen.field-0.0
    (subst (λ x. IsFree c.in_err-check_seen.field-0.0 ⊎ (unfinished (cond c.is_old.result x (without_file x c.in_ok-mark.mark)) c.args.root.now ≡ Some c.in_err-check_seen.field-0.0)) c.read_all.ensures.reads.same (c.in_err-check_seen.ensures.answer told)))

pub returns-clause-found : goal.returns-clause-found
returns-clause-found g c told =
    mark-found (g.F.Tree.contents c.args.tree.now) c.args.root.now c.in_ok-mark.mark c.in_ok-copy.field-0 c.in_ok-bytes.bytes c.is_old.result c.in_ok-mark.ensures.is c.in_ok-copy.ensures (c.in_ok-bytes.ensures.found told) c.is_old.ensures
    (subst (λ x. unfinished (cond c.is_old.result x (without_file x c.in_ok-mark.mark)) c.args.root.now ≡ None) c.read_all.ensures.reads.same (c.in_ok-check_seen.ensures.answer told))
