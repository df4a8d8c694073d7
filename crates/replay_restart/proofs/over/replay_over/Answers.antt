use Rattle.std.proofs.Common.{◌∙◌, inl, inr, refl, ap, sym, subst}
use Rattle.std.proofs.lemmas.Result.{err_from_is_err_and}
use Rattle.cluster_tree.specs.Contents.{entry_at}
use Rattle.cluster_tree.specs.Frame.{moment_of}
use Rattle.cluster_tree.specs.declared.file_fault.FileFault.TheVariants as file
use Rattle.cluster_tree.proofs.RunLemmas.{course_of}
use Rattle.file_edits.specs.Own.{Same}
use Rattle.replay_copies.specs.Laid.{mark_of}
use Rattle.rmgr_hooks.specs.Custom.{handed_in}
use Rattle.replay_restart.specs.Faults.{IsFree}
use Rattle.replay_restart.specs.Left.{RunsOver}
use Rattle.replay_restart.proofs.OverLemmas.{NotChanged, all-over, end-broken, err-not, files-not_changed, handed, has-same, has-synced, mark-kept, own-synced, replay-broken, sync-broken}
use Rattle.replay_restart.proofs.over.replay_over.Goals as goal

pub returns-in_err-count-clause-runs : goal.returns-in_err-count-clause-runs
returns-in_err-count-clause-runs g c = λ told s start has stands.
    let a = moment_of g.F.Tree c.args.tree.now in
    let b = moment_of g.F.Tree c.replay_marked.new.tree in
    let left = c.replay_marked.ensures.stops told (record { now = stands.now; left = stands.left }) in
    handed (RunsOver _ c.args.root.now s a b) c.from_residual.result _ (err_from_is_err_and c.from_residual.result c.from_residual.ensures.1)
    (replay-broken _ c.args.root.now s a has b (c.replay_marked.ensures.elsewhere told) (c.replay_marked.ensures.own told _ Same) left stands (c.replay_marked.ensures.spares told s start) _ (c.in_err-count.ensures.exact told s start))

pub returns-in_err-sync-clause-runs : goal.returns-in_err-sync-clause-runs
returns-in_err-sync-clause-runs g c = λ told s start has stands.
    let a = moment_of g.F.Tree c.args.tree.now in
    let b = moment_of g.F.Tree c.replay_marked.new.tree in
    let d = moment_of g.F.Tree c.sync.new.tree in
    handed (RunsOver _ c.args.root.now s a d) c.from_residual-in_err-sync.result _ (err_from_is_err_and c.from_residual-in_err-sync.result c.from_residual-in_err-sync.ensures.1)
    (sync-broken _ c.args.root.now s a has b (c.replay_marked.ensures.elsewhere told) (c.replay_marked.ensures.own told _ Same) (c.replay_marked.ensures.stops told stands) stands (c.replay_marked.ensures.spares told s start)
    d (course_of g.F.Tree _ _ c.replay_marked.ensures.frame) (course_of g.F.Tree _ _ c.sync.ensures.frame) (c.sync.ensures.same told) (c.sync.ensures.stops told) (c.sync.ensures.within told c.args.root.now)
    _ (subst IsFree (sym c.in_err-sync.ensures.fault) (inr (inl refl))))

pub returns-in_err-end_copies-clause-runs : goal.returns-in_err-end_copies-clause-runs
returns-in_err-end_copies-clause-runs g c = λ told s start has stands.
    let a = moment_of g.F.Tree c.args.tree.now in
    let b = moment_of g.F.Tree c.replay_marked.new.tree in
    let d = moment_of g.F.Tree c.sync.new.tree in
    let e = moment_of g.F.Tree c.end_copies.new.tree in
    let same = c.replay_marked.ensures.elsewhere told in
    let goes = c.replay_marked.ensures.own told _ Same in
    let left = c.replay_marked.ensures.stops told stands in
    let ab = course_of g.F.Tree _ _ c.replay_marked.ensures.frame in
    let bd = course_of g.F.Tree _ _ c.sync.ensures.frame in
    let still = c.sync.ensures.same told in
    let untouched = c.sync.ensures.stops told in
    let within = c.sync.ensures.within told c.args.root.now in
    let there = has-synced (handed_in g.M.Manager c.args.custom) c.args.root.now s a has b same goes left stands (c.replay_marked.ensures.spares told s start) d ab bd still untouched within in
    let synced = c.in_ok-sync.ensures.synced told in
    handed (RunsOver _ c.args.root.now s a e) c.from_residual-in_err-end_copies.result _ (err_from_is_err_and c.from_residual-in_err-end_copies.result c.from_residual-in_err-end_copies.ensures.1)
    (end-broken _ c.args.root.now s a has b same goes left stands (c.replay_marked.ensures.spares told s start) d ab bd still untouched within c.in_ok-count.count (c.in_ok-count.ensures.exact told s start)
    e (course_of g.F.Tree _ _ c.end_copies.ensures.frame) (c.end_copies.ensures.calls told there) (c.end_copies.ensures.elsewhere told there)
    (c.end_copies.ensures.stops told there (own-synced (g.F.Tree.contents c.replay_marked.new.tree) d synced)) _ (c.in_err-end_copies.ensures.refused told there) (c.in_err-end_copies.ensures.stands told there))

pub returns-in_err-end_copies-clause-changed : goal.returns-in_err-end_copies-clause-changed
returns-in_err-end_copies-clause-changed g c = λ told has.
    let there = has-same c.args.root.now (g.F.Tree.contents c.args.tree.now) (g.F.Tree.contents c.sync.new.tree)
    (ap (λ x. entry_at x (mark_of c.args.root.now)) (c.sync.ensures.same told) ∙ mark-kept c.args.root.now (g.F.Tree.contents c.args.tree.now) (g.F.Tree.contents c.replay_marked.new.tree) (c.replay_marked.ensures.elsewhere told)) has in
    handed NotChanged c.from_residual-in_err-end_copies.result _ (err_from_is_err_and c.from_residual-in_err-end_copies.result c.from_residual-in_err-end_copies.ensures.1)
    (files-not_changed _ (λ p. err-not _ (file.Changed p) (c.in_err-end_copies.ensures.changed told there p)))

pub returns-clause-runs : goal.returns-clause-runs
returns-clause-runs g c = λ told s start has stands.
    let a = moment_of g.F.Tree c.args.tree.now in
    let b = moment_of g.F.Tree c.replay_marked.new.tree in
    let d = moment_of g.F.Tree c.sync.new.tree in
    let e = moment_of g.F.Tree c.end_copies.new.tree in
    let same = c.replay_marked.ensures.elsewhere told in
    let goes = c.replay_marked.ensures.own told _ Same in
    let left = c.replay_marked.ensures.stops told stands in
    let ab = course_of g.F.Tree _ _ c.replay_marked.ensures.frame in
    let bd = course_of g.F.Tree _ _ c.sync.ensures.frame in
    let still = c.sync.ensures.same told in
    let untouched = c.sync.ensures.stops told in
    let within = c.sync.ensures.within told c.args.root.now in
    let there = has-synced (handed_in g.M.Manager c.args.custom) c.args.root.now s a has b same goes left stands (c.replay_marked.ensures.spares told s start) d ab bd still untouched within in
    let synced = c.in_ok-sync.ensures.synced told in
    all-over _ c.args.root.now s a has b same goes left stands (c.replay_marked.ensures.spares told s start) d ab bd still untouched within c.in_ok-count.count (c.in_ok-count.ensures.exact told s start)
    e (course_of g.F.Tree _ _ c.end_copies.ensures.frame) (c.end_copies.ensures.calls told there) (c.end_copies.ensures.elsewhere told there)
    (c.end_copies.ensures.stops told there (own-synced (g.F.Tree.contents c.replay_marked.new.tree) d synced)) (c.in_ok-end_copies.ensures.done told there) (c.in_ok-end_copies.ensures.synced told there)
