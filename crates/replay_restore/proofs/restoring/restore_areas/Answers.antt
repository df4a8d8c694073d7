use Rattle.std.proofs.Common.{◌≡◌, refl, false, inl}
use Rattle.std.proofs.lemmas.Result.{err_from_is_err_and}
use Rattle.cluster_tree.specs.Contents.{entry_at}
use Rattle.cluster_tree.specs.PathValue.{PathValue}
use Rattle.cluster_tree.specs.Run.{Still}
use Rattle.file_edits.specs.Own.{Same}
use Rattle.file_edits.proofs.OwnLemmas.{own-on, own-wider}
use Rattle.file_edits.proofs.SparingLemmas.{spared-own, spared-stop}
use Rattle.piece_copies.proofs.AnswerLemmas.{why-free}
use Rattle.replay_restore.specs.Filled.{has_path, with_all}
use Rattle.replay_restore.specs.Freed.{IsRefusal, goes_in}
use Rattle.replay_restore.specs.Listing.{is_restored_at}
use Rattle.replay_restore.proofs.AnswerLemmas.{err-given, err-of, if-err, ok-of, ok-same}
use Rattle.replay_restore.proofs.FreeLemmas.{came-elsewhere}
use Rattle.replay_restore.proofs.RestoreLemmas.{file-stays, goes_in-restored, paths-placed, refusal-unchanged, restore-can, restore-done}
use Rattle.replay_restore.proofs.restoring.restore_areas.Goals as goal

pub returns-in_err-free_areas-clause-refused : goal.returns-in_err-free_areas-clause-refused
returns-in_err-free_areas-clause-refused g c told can =
    err-given _ _ _ (err_from_is_err_and c.from_residual.result c.from_residual.ensures.1) (c.in_err-free_areas.ensures.refused told can.closed)

pub returns-in_err-free_areas-clause-own : goal.returns-in_err-free_areas-clause-own
returns-in_err-free_areas-clause-own g c told can =
    own-wider g.F.Tree.calls _ _ _ _ (goes_in-restored c.args.root.now c.args.listed.now (g.F.Tree.contents c.args.tree.now)) (c.free_areas.ensures.own told can.closed)

pub returns-in_err-free_areas-clause-spares : goal.returns-in_err-free_areas-clause-spares
returns-in_err-free_areas-clause-spares g c told can piece has all bytes first s =
    spared-own g.F.Tree (goes_in c.args.listed.now (g.F.Tree.contents c.args.tree.now) c.args.root.now) piece _ _
    (file-stays c.args.root.now c.args.listed.now (g.F.Tree.contents c.args.tree.now) piece.path s.shows.file has) c.free_areas.ensures.frame (c.free_areas.ensures.own told can.closed) bytes first s

pub returns-in_err-free_areas-clause-keeps : goal.returns-in_err-free_areas-clause-keeps
returns-in_err-free_areas-clause-keeps g c told can piece bytes has all shows left =
    spared-stop piece bytes _ _ (c.free_areas.ensures.frame.course _ Still)
    (returns-in_err-free_areas-clause-spares g c told can piece has all bytes (g.F.Tree.calls c.args.tree.now) (record { calls = Same; shows = shows })).calls shows left

pub returns-in_err-free_areas-clause-changed : goal.returns-in_err-free_areas-clause-changed
returns-in_err-free_areas-clause-changed g c told can p is =
    refusal-unchanged c.args.root.now (g.F.Tree.contents c.args.tree.now) p (if-err _ _ _ (returns-in_err-free_areas-clause-refused g c told can) is)

pub returns-clause-done : goal.returns-clause-done
returns-clause-done g c told can =
    let old = g.F.Tree.contents c.args.tree.now in
    let mid = g.F.Tree.contents c.free_areas.new.tree in
    let freed = c.in_ok-free_areas.ensures.done told can.closed can.label in
    let same : (q : PathValue) → goes_in c.args.listed.now old c.args.root.now q ≡ false → entry_at mid q ≡ entry_at old q = λ q away. came-elsewhere g.F.Tree (goes_in c.args.listed.now old c.args.root.now) _ _ q c.free_areas.ensures.frame (c.free_areas.ensures.own told can.closed) away in
    let ready = restore-can c.args.root.now c.args.listed.now old mid can freed same in
    ok-of _ _ c.fill_all.result _ (c.fill_all.ensures.exact told ready)
    (λ filled. restore-done c.args.root.now c.args.listed.now old mid can freed same (g.F.Tree.contents c.fill_all.new.tree) (ok-same _ _ _ refl filled))

pub returns-clause-refused : goal.returns-clause-refused
returns-clause-refused g c told can =
    let old = g.F.Tree.contents c.args.tree.now in
    let mid = g.F.Tree.contents c.free_areas.new.tree in
    let freed = c.in_ok-free_areas.ensures.done told can.closed can.label in
    let same : (q : PathValue) → goes_in c.args.listed.now old c.args.root.now q ≡ false → entry_at mid q ≡ entry_at old q = λ q away. came-elsewhere g.F.Tree (goes_in c.args.listed.now old c.args.root.now) _ _ q c.free_areas.ensures.frame (c.free_areas.ensures.own told can.closed) away in
    let ready = restore-can c.args.root.now c.args.listed.now old mid can freed same in
    err-of _ _ c.fill_all.result (IsRefusal c.args.root.now old) (c.fill_all.ensures.exact told ready)
    (λ e why. inl (why-free (with_all c.args.root.now 0 c.args.listed.now mid) _ e refl why))

pub returns-clause-label : goal.returns-clause-label
returns-clause-label g c told can stands =
    absurd (c.in_ok-free_areas.ensures.label told can.closed can.label stands)

pub returns-clause-own : goal.returns-clause-own
returns-clause-own g c told can =
    own-on g.F.Tree.calls _ _ _ _
    (own-wider g.F.Tree.calls _ (is_restored_at c.args.root.now) _ _ (goes_in-restored c.args.root.now c.args.listed.now (g.F.Tree.contents c.args.tree.now)) (c.free_areas.ensures.own told can.closed))
    (own-wider g.F.Tree.calls (has_path c.args.listed.now) (is_restored_at c.args.root.now) _ _ (λ q is. paths-placed c.args.root.now c.args.listed.now (g.F.Tree.contents c.args.tree.now) q can is) (c.fill_all.ensures.own told))

pub returns-clause-spares : goal.returns-clause-spares
returns-clause-spares g c told can piece has all bytes first s =
    let old = g.F.Tree.contents c.args.tree.now in
    let mid = g.F.Tree.contents c.free_areas.new.tree in
    let freed = c.in_ok-free_areas.ensures.done told can.closed can.label in
    let same : (q : PathValue) → goes_in c.args.listed.now old c.args.root.now q ≡ false → entry_at mid q ≡ entry_at old q = λ q away. came-elsewhere g.F.Tree (goes_in c.args.listed.now old c.args.root.now) _ _ q c.free_areas.ensures.frame (c.free_areas.ensures.own told can.closed) away in
    let ready = restore-can c.args.root.now c.args.listed.now old mid can freed same in
    c.fill_all.ensures.spares told ready piece all bytes first
    (spared-own g.F.Tree (goes_in c.args.listed.now old c.args.root.now) piece _ _
    (file-stays c.args.root.now c.args.listed.now old piece.path s.shows.file has) c.free_areas.ensures.frame (c.free_areas.ensures.own told can.closed) bytes first s)

pub returns-clause-keeps : goal.returns-clause-keeps
returns-clause-keeps g c told can piece bytes has all shows left =
    spared-stop piece bytes _ _ (c.fill_all.ensures.frame.course _ (c.free_areas.ensures.frame.course _ Still))
    (returns-clause-spares g c told can piece has all bytes (g.F.Tree.calls c.args.tree.now) (record { calls = Same; shows = shows })).calls shows left

pub returns-clause-changed : goal.returns-clause-changed
returns-clause-changed g c told can p is =
    refusal-unchanged c.args.root.now (g.F.Tree.contents c.args.tree.now) p (if-err _ _ _ (returns-clause-refused g c told can) is)
