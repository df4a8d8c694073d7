use Rattle.file_edits.proofs.OwnLemmas.{own-wider}
use Rattle.slru_replay.specs.Area.{is_of_area}
use Rattle.slru_replay.proofs.AreaLemmas.{area-way}
use Rattle.slru_replay.proofs.MultiXactLemmas.{laid-exact}
use Rattle.slru_replay.proofs.pages.lay_on.Goals as goal

pub returns-clause-exact : goal.returns-clause-exact
returns-clause-exact g c told =
    laid-exact c.args.root.now c.in_ok-path.path c.args.area c.args.page c.page_start-start.result c.args.at c.from.result c.args.bytes.now (g.F.Tree.contents c.args.tree.now) (g.F.Tree.contents c.lay.new.tree) c.lay.result
    c.in_ok-path.ensures.value c.page_start-start.ensures c.from.ensures (c.lay.ensures.exact told)

pub returns-clause-own : goal.returns-clause-own
returns-clause-own g c told =
    let went = rw c.in_ok-path.ensures.value at (c.lay.ensures.own told) in
    own-wider g.F.Tree.calls _ (is_of_area c.args.root.now c.args.area) _ _ (area-way c.args.root.now c.args.area c.args.page) went
