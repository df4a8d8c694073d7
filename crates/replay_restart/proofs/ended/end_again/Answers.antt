use Rattle.std.proofs.Common.{inl, inr, refl, subst, sym}
use Rattle.std.proofs.lemmas.Result.{err_from_is_err_and}
use Rattle.cluster_tree.specs.Frame.{moment_of}
use Rattle.cluster_tree.specs.declared.file_fault.FileFault.TheVariants as file
use Rattle.cluster_tree.proofs.RunLemmas.{course_of}
use Rattle.replay_copies.specs.Left.{HasFile}
use Rattle.replay_restart.specs.Faults.{IsFree}
use Rattle.replay_restart.specs.Left.{Restarts}
use Rattle.replay_restart.proofs.AgainLemmas.{all-ended, end-broken, end-unsynced}
use Rattle.replay_restart.proofs.OverLemmas.{NotChanged, err-not, files-not_changed, handed, own-synced}
use Rattle.replay_restart.proofs.TakenLemmas.{ended-file}
use Rattle.replay_restart.proofs.ended.end_again.Goals as goal

pub returns-in_err-sync-clause-restarts : goal.returns-in_err-sync-clause-restarts
returns-in_err-sync-clause-restarts g c = λ told taken custom.
    let a = moment_of g.F.Tree c.args.tree.now in
    let b = moment_of g.F.Tree c.sync.new.tree in
    handed (Restarts custom c.args.root.now a b) c.from_residual.result _ (err_from_is_err_and c.from_residual.result c.from_residual.ensures.1)
    (end-unsynced custom c.args.root.now a b (course_of g.F.Tree _ _ c.sync.ensures.frame) (c.sync.ensures.same told) (c.sync.ensures.stops told) (c.sync.ensures.within told c.args.root.now) taken
    _ (subst IsFree (sym c.in_err-sync.ensures.fault) (inr (inl refl))))

pub returns-in_err-clear_copies-clause-restarts : goal.returns-in_err-clear_copies-clause-restarts
returns-in_err-clear_copies-clause-restarts g c = λ told taken custom.
    let a = moment_of g.F.Tree c.args.tree.now in
    let b = moment_of g.F.Tree c.sync.new.tree in
    let d = moment_of g.F.Tree c.clear_copies.new.tree in
    let still = c.sync.ensures.same told in
    let file = ended-file (g.F.Tree.contents c.args.tree.now) c.args.root.now taken in
    let there = subst (HasFile c.args.root.now) (sym still) file in
    handed (Restarts custom c.args.root.now a d) c.from_residual-in_err-clear_copies.result _ (err_from_is_err_and c.from_residual-in_err-clear_copies.result c.from_residual-in_err-clear_copies.ensures.1)
    (end-broken custom c.args.root.now a b (course_of g.F.Tree _ _ c.sync.ensures.frame) still (c.sync.ensures.stops told) (c.sync.ensures.within told c.args.root.now) taken file
    d (course_of g.F.Tree _ _ c.clear_copies.ensures.frame) (c.clear_copies.ensures.calls told there) (c.clear_copies.ensures.elsewhere told there)
    (c.clear_copies.ensures.stops told there (own-synced (g.F.Tree.contents c.args.tree.now) b (c.in_ok-sync.ensures.synced told))) _ (c.in_err-clear_copies.ensures.refused told there) (c.in_err-clear_copies.ensures.stands told there))

pub returns-clause-restarts : goal.returns-clause-restarts
returns-clause-restarts g c = λ told taken custom.
    let a = moment_of g.F.Tree c.args.tree.now in
    let b = moment_of g.F.Tree c.sync.new.tree in
    let d = moment_of g.F.Tree c.clear_copies.new.tree in
    let still = c.sync.ensures.same told in
    let file = ended-file (g.F.Tree.contents c.args.tree.now) c.args.root.now taken in
    let there = subst (HasFile c.args.root.now) (sym still) file in
    all-ended custom c.args.root.now a b (course_of g.F.Tree _ _ c.sync.ensures.frame) still (c.sync.ensures.stops told) (c.sync.ensures.within told c.args.root.now) taken file
    d (course_of g.F.Tree _ _ c.clear_copies.ensures.frame) (c.clear_copies.ensures.calls told there) (c.clear_copies.ensures.elsewhere told there)
    (c.clear_copies.ensures.stops told there (own-synced (g.F.Tree.contents c.args.tree.now) b (c.in_ok-sync.ensures.synced told))) (c.in_ok-clear_copies.ensures.done told there) (c.in_ok-clear_copies.ensures.synced told there)

pub returns-in_err-clear_copies-clause-changed : goal.returns-in_err-clear_copies-clause-changed
returns-in_err-clear_copies-clause-changed g c = λ told taken.
    let there = subst (HasFile c.args.root.now) (sym (c.sync.ensures.same told)) (ended-file (g.F.Tree.contents c.args.tree.now) c.args.root.now taken) in
    handed NotChanged c.from_residual-in_err-clear_copies.result _ (err_from_is_err_and c.from_residual-in_err-clear_copies.result c.from_residual-in_err-clear_copies.ensures.1)
    (files-not_changed _ (λ p. err-not _ (file.Changed p) (c.in_err-clear_copies.ensures.changed told there p)))
