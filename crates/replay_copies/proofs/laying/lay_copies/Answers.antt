use Rattle.std.proofs.Common.{inl}
use Rattle.cluster_tree.specs.Apart.{is_held}
use Rattle.cluster_tree.specs.Frame.{state_of}
use Rattle.cluster_tree.proofs.RunLemmas.{run_of}
use Rattle.file_edits.specs.Own.{Same}
use Rattle.file_edits.proofs.LawLemmas.{own-elsewhere}
use Rattle.stored_replay.specs.Shadows.{shadow_folder}
use Rattle.replay_copies.specs.Left.{IsKept}
use Rattle.replay_copies.proofs.CopyLemmas.{all-still, copies-laid, emptied-open, if-refused, on-done, outside-same}
use Rattle.replay_copies.proofs.laying.lay_copies.Goals as goal

pub returns-clause-copied : goal.returns-clause-copied
returns-clause-copied g c = λ told can.
    let old = g.F.Tree.contents c.args.tree.now in
    let mid = g.F.Tree.contents c.make_anew.new.tree in
    let emptied = c.in_ok-make_anew.ensures.emptied told can.rooted in
    let same = outside-same c.args.root.now old mid c.args.listed.now (λ q off. own-elsewhere (is_held (shadow_folder c.args.root.now)) (state_of g.F.Tree c.args.tree.now) (state_of g.F.Tree c.make_anew.new.tree) q (run_of g.F.Tree _ _ c.make_anew.ensures.frame) (c.make_anew.ensures.own told _ Same) off) can.outside in
    let found = all-still old mid c.args.listed.now same can.found in
    on-done _ (g.F.Tree.contents c.copy_all.new.tree) c.copy_all.result (c.copy_all.ensures.exact told (emptied-open c.args.root.now mid emptied) found)
    (copies-laid c.args.root.now c.args.listed.now old mid (g.F.Tree.contents c.copy_all.new.tree) emptied same found can.counts)

pub returns-clause-refused : goal.returns-clause-refused
returns-clause-refused g c = λ told can.
    let old = g.F.Tree.contents c.args.tree.now in
    let mid = g.F.Tree.contents c.make_anew.new.tree in
    let emptied = c.in_ok-make_anew.ensures.emptied told can.rooted in
    let same = outside-same c.args.root.now old mid c.args.listed.now (λ q off. own-elsewhere (is_held (shadow_folder c.args.root.now)) (state_of g.F.Tree c.args.tree.now) (state_of g.F.Tree c.make_anew.new.tree) q (run_of g.F.Tree _ _ c.make_anew.ensures.frame) (c.make_anew.ensures.own told _ Same) off) can.outside in
    if-refused (IsKept c.args.root.now old) _ (g.F.Tree.contents c.copy_all.new.tree) c.copy_all.result (c.copy_all.ensures.exact told (emptied-open c.args.root.now mid emptied) (all-still old mid c.args.listed.now same can.found)) (λ e free. inl free)
