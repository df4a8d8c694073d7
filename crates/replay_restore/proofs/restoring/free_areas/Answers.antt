use Rattle.std.proofs.Common.{codes, refl, ap, ◌∙◌}
use Rattle.std.proofs.lemmas.Result.{err_from_is_err_and}
use Rattle.cluster_tree.specs.Contents.{is_folder}
use Rattle.cluster_tree.specs.PathValue.{PathValue}
use Rattle.file_edits.proofs.ClearLemmas.{held-own}
use Rattle.file_edits.proofs.OwnLemmas.{own-on}
use Rattle.replay_restore.specs.Freed.{label_path}
use Rattle.replay_restore.proofs.AnswerLemmas.{err-given, ok-wider}
use Rattle.replay_restore.proofs.AreaLemmas.{areas-freed}
use Rattle.replay_restore.proofs.InsideLemmas.{freeing-none}
use Rattle.replay_restore.proofs.restoring.free_areas.Goals as goal

pub returns-in_err-free_area-clause-refused : goal.returns-in_err-free_area-clause-refused
returns-in_err-free_area-clause-refused g c told closed =
    let first = g.F.Tree.contents c.args.tree.now in
    let f0 = freeing-none c.args.listed.now c.args.root.now first first refl in
    err-given _ _ _ (err_from_is_err_and c.from_residual.result c.from_residual.ensures.1) (c.in_err-free_area.ensures.refused told closed refl _ first refl f0)

pub returns-in_err-free_area-clause-own : goal.returns-in_err-free_area-clause-own
returns-in_err-free_area-clause-own g c told closed =
    let first = g.F.Tree.contents c.args.tree.now in
    let f0 = freeing-none c.args.listed.now c.args.root.now first first refl in
    (c.free_area.ensures.own told closed refl _ first refl f0)

pub returns-in_err-free_area-2-clause-refused : goal.returns-in_err-free_area-2-clause-refused
returns-in_err-free_area-2-clause-refused g c told closed =
    let first = g.F.Tree.contents c.args.tree.now in
    let f0 = freeing-none c.args.listed.now c.args.root.now first first refl in
    let f1 = c.in_ok-free_area.ensures.done told closed _ first refl f0 in
    err-given _ _ _ (err_from_is_err_and c.from_residual-in_err-free_area-2.result c.from_residual-in_err-free_area-2.ensures.1) (c.in_err-free_area-2.ensures.refused told closed refl _ first refl f1)

pub returns-in_err-free_area-2-clause-own : goal.returns-in_err-free_area-2-clause-own
returns-in_err-free_area-2-clause-own g c told closed =
    let first = g.F.Tree.contents c.args.tree.now in
    let f0 = freeing-none c.args.listed.now c.args.root.now first first refl in
    let f1 = c.in_ok-free_area.ensures.done told closed _ first refl f0 in
    (own-on g.F.Tree.calls _ _ _ _ (c.free_area.ensures.own told closed refl _ first refl f0) (c.free_area-2.ensures.own told closed refl _ first refl f1))

pub returns-in_err-free_area-3-clause-refused : goal.returns-in_err-free_area-3-clause-refused
returns-in_err-free_area-3-clause-refused g c told closed =
    let first = g.F.Tree.contents c.args.tree.now in
    let f0 = freeing-none c.args.listed.now c.args.root.now first first refl in
    let f1 = c.in_ok-free_area.ensures.done told closed _ first refl f0 in
    let f2 = c.in_ok-free_area-2.ensures.done told closed _ first refl f1 in
    err-given _ _ _ (err_from_is_err_and c.from_residual-in_err-free_area-3.result c.from_residual-in_err-free_area-3.ensures.1) (c.in_err-free_area-3.ensures.refused told closed refl _ first refl f2)

pub returns-in_err-free_area-3-clause-own : goal.returns-in_err-free_area-3-clause-own
returns-in_err-free_area-3-clause-own g c told closed =
    let first = g.F.Tree.contents c.args.tree.now in
    let f0 = freeing-none c.args.listed.now c.args.root.now first first refl in
    let f1 = c.in_ok-free_area.ensures.done told closed _ first refl f0 in
    let f2 = c.in_ok-free_area-2.ensures.done told closed _ first refl f1 in
    (own-on g.F.Tree.calls _ _ _ _ (own-on g.F.Tree.calls _ _ _ _ (c.free_area.ensures.own told closed refl _ first refl f0) (c.free_area-2.ensures.own told closed refl _ first refl f1)) (c.free_area-3.ensures.own told closed refl _ first refl f2))

pub returns-in_err-free_area-4-clause-refused : goal.returns-in_err-free_area-4-clause-refused
returns-in_err-free_area-4-clause-refused g c told closed =
    let first = g.F.Tree.contents c.args.tree.now in
    let f0 = freeing-none c.args.listed.now c.args.root.now first first refl in
    let f1 = c.in_ok-free_area.ensures.done told closed _ first refl f0 in
    let f2 = c.in_ok-free_area-2.ensures.done told closed _ first refl f1 in
    let f3 = c.in_ok-free_area-3.ensures.done told closed _ first refl f2 in
    err-given _ _ _ (err_from_is_err_and c.from_residual-in_err-free_area-4.result c.from_residual-in_err-free_area-4.ensures.1) (c.in_err-free_area-4.ensures.refused told closed refl _ first refl f3)

pub returns-in_err-free_area-4-clause-own : goal.returns-in_err-free_area-4-clause-own
returns-in_err-free_area-4-clause-own g c told closed =
    let first = g.F.Tree.contents c.args.tree.now in
    let f0 = freeing-none c.args.listed.now c.args.root.now first first refl in
    let f1 = c.in_ok-free_area.ensures.done told closed _ first refl f0 in
    let f2 = c.in_ok-free_area-2.ensures.done told closed _ first refl f1 in
    let f3 = c.in_ok-free_area-3.ensures.done told closed _ first refl f2 in
    (own-on g.F.Tree.calls _ _ _ _ (own-on g.F.Tree.calls _ _ _ _ (own-on g.F.Tree.calls _ _ _ _ (c.free_area.ensures.own told closed refl _ first refl f0) (c.free_area-2.ensures.own told closed refl _ first refl f1)) (c.free_area-3.ensures.own told closed refl _ first refl f2)) (c.free_area-4.ensures.own told closed refl _ first refl f3))

pub returns-clause-done : goal.returns-clause-done
returns-clause-done g c told closed label =
    let first = g.F.Tree.contents c.args.tree.now in
    let f0 = freeing-none c.args.listed.now c.args.root.now first first refl in
    let f1 = c.in_ok-free_area.ensures.done told closed _ first refl f0 in
    let f2 = c.in_ok-free_area-2.ensures.done told closed _ first refl f1 in
    let f3 = c.in_ok-free_area-3.ensures.done told closed _ first refl f2 in
    let f4 = c.in_ok-free_area-4.ensures.done told closed _ first refl f3 in
    ok-wider c.free_label.result _ _ (areas-freed c.args.listed.now c.args.root.now first (g.F.Tree.contents c.free_label.new.tree)) (c.free_label.ensures.done told closed label _ first refl f4)

pub returns-clause-refused : goal.returns-clause-refused
returns-clause-refused g c told closed =
    let first = g.F.Tree.contents c.args.tree.now in
    let f0 = freeing-none c.args.listed.now c.args.root.now first first refl in
    let f1 = c.in_ok-free_area.ensures.done told closed _ first refl f0 in
    let f2 = c.in_ok-free_area-2.ensures.done told closed _ first refl f1 in
    let f3 = c.in_ok-free_area-3.ensures.done told closed _ first refl f2 in
    let f4 = c.in_ok-free_area-4.ensures.done told closed _ first refl f3 in
    c.free_label.ensures.refused told closed _ first refl f4

pub returns-clause-label : goal.returns-clause-label
returns-clause-label g c told closed label stands =
    let first = g.F.Tree.contents c.args.tree.now in
    let f0 = freeing-none c.args.listed.now c.args.root.now first first refl in
    let f1 = c.in_ok-free_area.ensures.done told closed _ first refl f0 in
    let f2 = c.in_ok-free_area-2.ensures.done told closed _ first refl f1 in
    let f3 = c.in_ok-free_area-3.ensures.done told closed _ first refl f2 in
    let f4 = c.in_ok-free_area-4.ensures.done told closed _ first refl f3 in
    let path : PathValue = label_path c.args.root.now in
    c.free_label.ensures.label told label (ap is_folder (f4.left (codes "backup_label") refl path (held-own path)) ∙ stands)

pub returns-clause-own : goal.returns-clause-own
returns-clause-own g c told closed =
    let first = g.F.Tree.contents c.args.tree.now in
    let f0 = freeing-none c.args.listed.now c.args.root.now first first refl in
    let f1 = c.in_ok-free_area.ensures.done told closed _ first refl f0 in
    let f2 = c.in_ok-free_area-2.ensures.done told closed _ first refl f1 in
    let f3 = c.in_ok-free_area-3.ensures.done told closed _ first refl f2 in
    let f4 = c.in_ok-free_area-4.ensures.done told closed _ first refl f3 in
    (own-on g.F.Tree.calls _ _ _ _ (own-on g.F.Tree.calls _ _ _ _ (own-on g.F.Tree.calls _ _ _ _ (own-on g.F.Tree.calls _ _ _ _ (c.free_area.ensures.own told closed refl _ first refl f0) (c.free_area-2.ensures.own told closed refl _ first refl f1)) (c.free_area-3.ensures.own told closed refl _ first refl f2)) (c.free_area-4.ensures.own told closed refl _ first refl f3)) (c.free_label.ensures.own told closed _ first refl f4))
