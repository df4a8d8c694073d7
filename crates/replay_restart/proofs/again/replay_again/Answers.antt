use Rattle.std.proofs.Common.{◌∙◌, ap, refl, inl, inr, ⊎_elim, subst, sym}
use Rattle.std.proofs.lemmas.Result.{err_from_is_err_and}
use Rattle.cluster_tree.specs.Contents.{entry_at}
use Rattle.cluster_tree.specs.Frame.{moment_of}
use Rattle.cluster_tree.specs.Run.{Course, Moment}
use Rattle.cluster_tree.proofs.RunLemmas.{course_of}
use Rattle.marked_runs.specs.Moments.{StandsSynced}
use Rattle.replay_copies.specs.Laid.{mark_of}
use Rattle.replay_core.specs.Under.{WasStart}
use Rattle.restart_start.specs.Beginning.{MayBegin, without_own}
use Rattle.rmgr_hooks.specs.Custom.{handed_in}
use Rattle.replay_restart.specs.Left.{Restarts}
use Rattle.replay_restart.specs.Meant.{Again}
use Rattle.replay_restart.specs.Stopped.{ReplayingAgain}
use Rattle.replay_restart.proofs.AgainLemmas.{not-again, not-back, restoring-left}
use Rattle.replay_restart.proofs.AnewLemmas.{again-begun, err-not_start, over-broken, over-done, reads-still, runs-same, start-free, start-not_changed, was-start}
use Rattle.replay_restart.proofs.OverLemmas.{NotChanged, as-any, handed, has-same, has-there}
use Rattle.replay_restart.proofs.TakenLemmas.{begun-was, taken-told}
use Rattle.replay_restart.proofs.again.replay_again.Goals as goal

pub returns-in_err-bring_back-clause-restarts : goal.returns-in_err-bring_back-clause-restarts
returns-in_err-bring_back-clause-restarts g c = λ told.
    let root = c.args.root.now in
    let custom = handed_in g.M.Manager c.args.custom in
    let a = moment_of g.F.Tree c.args.tree.now in
    let b = moment_of g.F.Tree c.bring_back.new.tree in
    let c0 = g.F.Tree.contents c.args.tree.now in
    let taken = c.requires.taken told in
    let has = (begun-was c0 root c.args.listed.now (taken-told c0 root _ taken)).has in
    let marked = has-there root c0 has in
    handed (Restarts custom root a b) c.from_residual.result _ (err_from_is_err_and c.from_residual.result c.from_residual.ensures.1)
    (not-back custom root c.args.listed.now a b taken marked _ (c.in_err-bring_back.ensures.brings told (c.requires.can told)))

pub returns-in_err-begun-clause-restarts : goal.returns-in_err-begun-clause-restarts
returns-in_err-begun-clause-restarts g c = λ told.
    let root = c.args.root.now in
    let custom = handed_in g.M.Manager c.args.custom in
    let a = moment_of g.F.Tree c.args.tree.now in
    let b = moment_of g.F.Tree c.bring_back.new.tree in
    let c0 = g.F.Tree.contents c.args.tree.now in
    let taken = c.requires.taken told in
    let has = (begun-was c0 root c.args.listed.now (taken-told c0 root _ taken)).has in
    let marked = has-there root c0 has in
    let d = moment_of g.F.Tree c.start_again.new.tree in
    handed (Restarts custom root a d) c.from_residual-in_err-begun.result _ (err_from_is_err_and c.from_residual-in_err-begun.result c.from_residual-in_err-begun.ensures.1)
    (not-again custom root c.args.listed.now a b taken marked d _ (reads-still g.F.Tree _ _ c.start_again.ensures.reads) (c.in_ok-bring_back.ensures.brings told (c.requires.can told))
    (⊎_elim (λ free. inl (start-free _ free)) (λ why. inr why) (c.in_err-begun.ensures.exact told)))

pub returns-in_err-begun-clause-changed : goal.returns-in_err-begun-clause-changed
returns-in_err-begun-clause-changed g c = λ told.
    handed NotChanged c.from_residual-in_err-begun.result _ (err_from_is_err_and c.from_residual-in_err-begun.result c.from_residual-in_err-begun.ensures.1)
    (start-not_changed _ (err-not_start _ (c.in_err-begun.ensures.changed told)))

pub replay_over-requires-clause-checked : goal.replay_over-requires-clause-checked
replay_over-requires-clause-checked g c = λ told.
    let root = c.args.root.now in
    let custom = handed_in g.M.Manager c.args.custom in
    let a = moment_of g.F.Tree c.args.tree.now in
    let b = moment_of g.F.Tree c.bring_back.new.tree in
    let c0 = g.F.Tree.contents c.args.tree.now in
    let taken = c.requires.taken told in
    let has = (begun-was c0 root c.args.listed.now (taken-told c0 root _ taken)).has in
    let marked = has-there root c0 has in
    let c1 = g.F.Tree.contents c.start_again.new.tree in
    let cb = g.F.Tree.contents c.bring_back.new.tree in
    let back = c.in_ok-bring_back.ensures.brings told (c.requires.can told) in
    let same = c.start_again.ensures.reads.same in
    let x = again-begun custom root cb c1 c.in_ok-begun.begun same (c.in_ok-begun.ensures.exact told) in
    let there = has-same root c0 c1 (ap (λ y. entry_at y (mark_of root)) same ∙ back.mark) has in
    let start : WasStart custom root c.in_ok-begun.begun.checked x.start c1 = was-start custom root c1 c1 c.in_ok-begun.begun.checked x.start x.may.passes x.is (c.in_ok-begun.ensures.knows told) (λ path holds. refl) (λ path off. refl) in
    (x.start, start)

pub returns-in_err-count-clause-changed : goal.returns-in_err-count-clause-changed
returns-in_err-count-clause-changed g c = λ told.
    let root = c.args.root.now in
    let custom = handed_in g.M.Manager c.args.custom in
    let a = moment_of g.F.Tree c.args.tree.now in
    let b = moment_of g.F.Tree c.bring_back.new.tree in
    let c0 = g.F.Tree.contents c.args.tree.now in
    let taken = c.requires.taken told in
    let has = (begun-was c0 root c.args.listed.now (taken-told c0 root _ taken)).has in
    let marked = has-there root c0 has in
    let c1 = g.F.Tree.contents c.start_again.new.tree in
    let cb = g.F.Tree.contents c.bring_back.new.tree in
    let back = c.in_ok-bring_back.ensures.brings told (c.requires.can told) in
    let same = c.start_again.ensures.reads.same in
    let x = again-begun custom root cb c1 c.in_ok-begun.begun same (c.in_ok-begun.ensures.exact told) in
    let there = has-same root c0 c1 (ap (λ y. entry_at y (mark_of root)) same ∙ back.mark) has in
    handed NotChanged c.from_residual-in_err-count.result _ (err_from_is_err_and c.from_residual-in_err-count.result c.from_residual-in_err-count.ensures.1)
    (as-any _ (c.in_err-count.ensures.changed told there))

pub returns-in_err-count-clause-restarts : goal.returns-in_err-count-clause-restarts
returns-in_err-count-clause-restarts g c = λ told.
    let root = c.args.root.now in
    let custom = handed_in g.M.Manager c.args.custom in
    let a = moment_of g.F.Tree c.args.tree.now in
    let b = moment_of g.F.Tree c.bring_back.new.tree in
    let c0 = g.F.Tree.contents c.args.tree.now in
    let taken = c.requires.taken told in
    let has = (begun-was c0 root c.args.listed.now (taken-told c0 root _ taken)).has in
    let marked = has-there root c0 has in
    let c1 = g.F.Tree.contents c.start_again.new.tree in
    let cb = g.F.Tree.contents c.bring_back.new.tree in
    let back = c.in_ok-bring_back.ensures.brings told (c.requires.can told) in
    let same = c.start_again.ensures.reads.same in
    let x = again-begun custom root cb c1 c.in_ok-begun.begun same (c.in_ok-begun.ensures.exact told) in
    let there = has-same root c0 c1 (ap (λ y. entry_at y (mark_of root)) same ∙ back.mark) has in
    let start : WasStart custom root c.in_ok-begun.begun.checked x.start c1 = was-start custom root c1 c1 c.in_ok-begun.begun.checked x.start x.may.passes x.is (c.in_ok-begun.ensures.knows told) (λ path holds. refl) (λ path off. refl) in
    let b1 = moment_of g.F.Tree c.start_again.new.tree in
    let e = moment_of g.F.Tree c.replay_over.new.tree in
    let still = reads-still g.F.Tree _ _ c.start_again.ensures.reads in
    let be = subst (λ (m : Moment). Course m e) still (course_of g.F.Tree _ _ c.replay_over.ensures.frame) in
    let may = subst (λ y. MayBegin custom (without_own y root) root x.start c.in_ok-begun.begun.listed) same x.may in
    let synced = subst (λ (m : Moment). StandsSynced m.state.contents m) (sym still) back.done.1 in
    handed (Restarts custom root a e) c.from_residual-in_err-count.result _ (err_from_is_err_and c.from_residual-in_err-count.result c.from_residual-in_err-count.ensures.1)
    (over-broken custom root a b x.start e (course_of g.F.Tree _ _ c.bring_back.ensures.frame) be (Again c.args.listed.now _ taken back.done.0 may) (back.stops marked) back.within back.log
    (restoring-left custom root c.args.listed.now a b taken back.left) (λ y run. ReplayingAgain x.start c.args.listed.now c.in_ok-begun.begun.listed _ taken back.done.0 may run)
    _ (runs-same custom root x.start _ _ e _ still (c.in_err-count.ensures.runs told x.start start there synced)))

pub returns-clause-restarts : goal.returns-clause-restarts
returns-clause-restarts g c = λ told.
    let root = c.args.root.now in
    let custom = handed_in g.M.Manager c.args.custom in
    let a = moment_of g.F.Tree c.args.tree.now in
    let b = moment_of g.F.Tree c.bring_back.new.tree in
    let c0 = g.F.Tree.contents c.args.tree.now in
    let taken = c.requires.taken told in
    let has = (begun-was c0 root c.args.listed.now (taken-told c0 root _ taken)).has in
    let marked = has-there root c0 has in
    let c1 = g.F.Tree.contents c.start_again.new.tree in
    let cb = g.F.Tree.contents c.bring_back.new.tree in
    let back = c.in_ok-bring_back.ensures.brings told (c.requires.can told) in
    let same = c.start_again.ensures.reads.same in
    let x = again-begun custom root cb c1 c.in_ok-begun.begun same (c.in_ok-begun.ensures.exact told) in
    let there = has-same root c0 c1 (ap (λ y. entry_at y (mark_of root)) same ∙ back.mark) has in
    let start : WasStart custom root c.in_ok-begun.begun.checked x.start c1 = was-start custom root c1 c1 c.in_ok-begun.begun.checked x.start x.may.passes x.is (c.in_ok-begun.ensures.knows told) (λ path holds. refl) (λ path off. refl) in
    let b1 = moment_of g.F.Tree c.start_again.new.tree in
    let e = moment_of g.F.Tree c.replay_over.new.tree in
    let still = reads-still g.F.Tree _ _ c.start_again.ensures.reads in
    let be = subst (λ (m : Moment). Course m e) still (course_of g.F.Tree _ _ c.replay_over.ensures.frame) in
    let may = subst (λ y. MayBegin custom (without_own y root) root x.start c.in_ok-begun.begun.listed) same x.may in
    let synced = subst (λ (m : Moment). StandsSynced m.state.contents m) (sym still) back.done.1 in
    over-done custom root a b x.start e (course_of g.F.Tree _ _ c.bring_back.ensures.frame) be (Again c.args.listed.now _ taken back.done.0 may) (back.stops marked) back.within back.log
    (restoring-left custom root c.args.listed.now a b taken back.left) (λ y run. ReplayingAgain x.start c.args.listed.now c.in_ok-begun.begun.listed _ taken back.done.0 may run)
    _ (runs-same custom root x.start _ _ e _ still (c.in_ok-count.ensures.runs told x.start start there synced))
