use Rattle.std.proofs.Common.{◌≡◌, ◌+◌, ◌/◌, ◌%◌, ap}
use Rattle.std.proofs.lemmas.Result.{err_from_is_err_and}
use Rattle.file_edits.proofs.AnswerLemmas.{handed-on}
use Rattle.file_edits.proofs.LaidLemmas.{read-refused}
use Rattle.file_edits.proofs.OwnLemmas.{own-read, own-on, own-wider}
use Rattle.slru_replay.specs.Area.{is_of_area}
use Rattle.slru_replay.specs.Status.{with_status}
use Rattle.slru_replay.specs.declared.area.Area.TheVariants.{Status}
use Rattle.slru_replay.proofs.AreaLemmas.{area-way}
use Rattle.slru_replay.proofs.StatusLemmas.{status-exact}
use Rattle.slru_replay.proofs.status.set_status.Goals as goal

pub returns-in_err-read_or_zeros-clause-exact : goal.returns-in_err-read_or_zeros-clause-exact
returns-in_err-read_or_zeros-clause-exact g c told =
    let why = rw c.in_ok-path.ensures.value at (c.in_err-read_or_zeros.ensures.exact told) in
    handed-on _ _ c.from_residual-in_err-read_or_zeros.result _ (err_from_is_err_and c.from_residual-in_err-read_or_zeros.result c.from_residual-in_err-read_or_zeros.ensures.1)
    (read-refused c.args.root.now _ (with_status c.args.xid c.args.status) (g.F.Tree.contents c.args.tree.now) (c.page_start-start.result + c.from.result) 1 _ why)

pub returns-clause-exact : goal.returns-clause-exact
returns-clause-exact g c told =
    let place : c.page_start-start.result + c.from.result ≡ c.page_start-start.result + c.args.xid % 32768 / 4 = ap (λ k. c.page_start-start.result + k) c.from.ensures in
    status-exact c.args.root.now c.in_ok-path.path c.args.xid c.args.status c.page_start-start.result (c.page_start-start.result + c.from.result) c.with_pair.result c.read_or_zeros.new.into
    (g.F.Tree.contents c.args.tree.now) (g.F.Tree.contents c.read_or_zeros.new.tree) (g.F.Tree.contents c.lay.new.tree) c.lay.result
    c.in_ok-path.ensures.value c.in_ok-path.ensures.held c.in_ok-path.ensures.deeper c.page_start-start.ensures place (c.in_ok-read_or_zeros.ensures.exact told) c.with_pair.ensures c.read_or_zeros.ensures.frame.same (c.lay.ensures.exact told)

pub returns-clause-own : goal.returns-clause-own
returns-clause-own g c told =
    let went = rw c.in_ok-path.ensures.value at (c.lay.ensures.own told) in
    own-on g.F.Tree.calls _ _ _ _ (own-read g.F.Tree _ _ _ c.read_or_zeros.ensures.frame)
    (own-wider g.F.Tree.calls _ (is_of_area c.args.root.now Status) _ _ (area-way c.args.root.now Status (c.args.xid / 32768)) went)
