use Rattle.std.proofs.Common.{replicate, refl}
use Rattle.file_edits.proofs.OwnLemmas.{own-wider}
use Rattle.slru_replay.specs.Area.{is_of_area}
use Rattle.slru_replay.proofs.AreaLemmas.{area-way, zeroed-exact}
use Rattle.slru_replay.proofs.pages.zero_page.Goals as goal

pub returns-clause-exact : goal.returns-clause-exact
returns-clause-exact g c told =
    zeroed-exact c.args.root.now c.in_ok-path.path c.args.area c.args.page c.page_start-start.result (replicate 8192 0) (g.F.Tree.contents c.args.tree.now) (g.F.Tree.contents c.lay.new.tree) c.lay.result
    c.in_ok-path.ensures.value c.page_start-start.ensures refl (c.lay.ensures.exact told)

pub returns-clause-own : goal.returns-clause-own
returns-clause-own g c told =
    let went = rw c.in_ok-path.ensures.value at (c.lay.ensures.own told) in
    own-wider g.F.Tree.calls _ (is_of_area c.args.root.now c.args.area) _ _ (area-way c.args.root.now c.args.area c.args.page) went
