use Rattle.std.proofs.Common.{◌≡◌, false, subst, sym}
use Rattle.std.proofs.lemmas.Result.{err_from_is_err_and}
use Rattle.cluster_tree.specs.Contents.{entry_at}
use Rattle.cluster_tree.specs.Frame.{moment_of, state_of}
use Rattle.cluster_tree.specs.PathValue.{PathValue}
use Rattle.cluster_tree.specs.declared.file_fault.FileFault.TheVariants as file
use Rattle.cluster_tree.proofs.RunLemmas.{course_of, run_of}
use Rattle.file_edits.specs.Own.{Same}
use Rattle.file_edits.proofs.LawLemmas.{own-elsewhere}
use Rattle.replay_restore.specs.Listing.{is_restored_at}
use Rattle.replay_restore.specs.Restored.{CanRestore}
use Rattle.replay_restart.specs.Left.{BringsBack}
use Rattle.replay_restart.proofs.AgainLemmas.{last-synced, restore-broken}
use Rattle.replay_restart.proofs.OverLemmas.{NotChanged, err-not, files-not_changed, handed}
use Rattle.replay_restart.proofs.again.bring_back.Goals as goal

pub returns-in_err-restore_areas-clause-brings : goal.returns-in_err-restore_areas-clause-brings
returns-in_err-restore_areas-clause-brings g c = λ told can.
    let root = c.args.root.now in
    let a = moment_of g.F.Tree c.args.tree.now in
    let b = moment_of g.F.Tree c.sync.new.tree in
    let d = moment_of g.F.Tree c.restore_areas.new.tree in
    let still = c.sync.ensures.same told in
    let can_b = subst (CanRestore root c.args.listed.now) (sym still) can in
    let own = c.restore_areas.ensures.own told can_b _ Same in
    let elsewhere : (q : PathValue) → is_restored_at root q ≡ false → entry_at (g.F.Tree.contents c.restore_areas.new.tree) q ≡ entry_at (g.F.Tree.contents c.sync.new.tree) q = λ q off. own-elsewhere (is_restored_at root) (state_of g.F.Tree c.sync.new.tree) (state_of g.F.Tree c.restore_areas.new.tree) q (run_of g.F.Tree _ _ c.restore_areas.ensures.frame) own off in
    handed (BringsBack root c.args.listed.now a d) c.from_residual-in_err-restore_areas.result _ (err_from_is_err_and c.from_residual-in_err-restore_areas.result c.from_residual-in_err-restore_areas.ensures.1)
    (restore-broken root c.args.listed.now a b (course_of g.F.Tree _ _ c.sync.ensures.frame) still (c.sync.ensures.stops told) (c.sync.ensures.within told root) (c.in_ok-sync.ensures.synced told)
    d (course_of g.F.Tree _ _ c.restore_areas.ensures.frame) own elsewhere
    (λ piece bytes has all shows. (c.restore_areas.ensures.spares told can_b piece has all bytes (g.F.Tree.calls c.sync.new.tree) (record { calls = Same; shows = shows })).shows)
    (λ piece bytes has all shows left. c.restore_areas.ensures.keeps told can_b piece bytes has all shows left)
    _ (c.in_err-restore_areas.ensures.refused told can_b))

pub returns-in_err-restore_areas-clause-changed : goal.returns-in_err-restore_areas-clause-changed
returns-in_err-restore_areas-clause-changed g c = λ told can.
    let can_b = subst (CanRestore c.args.root.now c.args.listed.now) (sym (c.sync.ensures.same told)) can in
    handed NotChanged c.from_residual-in_err-restore_areas.result _ (err_from_is_err_and c.from_residual-in_err-restore_areas.result c.from_residual-in_err-restore_areas.ensures.1)
    (files-not_changed _ (λ p. err-not _ (file.Changed p) (c.in_err-restore_areas.ensures.changed told can_b p)))

pub returns-clause-brings : goal.returns-clause-brings
returns-clause-brings g c = λ told can.
    let root = c.args.root.now in
    let a = moment_of g.F.Tree c.args.tree.now in
    let b = moment_of g.F.Tree c.sync.new.tree in
    let d = moment_of g.F.Tree c.restore_areas.new.tree in
    let still = c.sync.ensures.same told in
    let can_b = subst (CanRestore root c.args.listed.now) (sym still) can in
    let own = c.restore_areas.ensures.own told can_b _ Same in
    let elsewhere : (q : PathValue) → is_restored_at root q ≡ false → entry_at (g.F.Tree.contents c.restore_areas.new.tree) q ≡ entry_at (g.F.Tree.contents c.sync.new.tree) q = λ q off. own-elsewhere (is_restored_at root) (state_of g.F.Tree c.sync.new.tree) (state_of g.F.Tree c.restore_areas.new.tree) q (run_of g.F.Tree _ _ c.restore_areas.ensures.frame) own off in
    last-synced root c.args.listed.now a b (course_of g.F.Tree _ _ c.sync.ensures.frame) still (c.sync.ensures.stops told) (c.sync.ensures.within told root) (c.in_ok-sync.ensures.synced told)
    d (course_of g.F.Tree _ _ c.restore_areas.ensures.frame) own elsewhere
    (λ piece bytes has all shows. (c.restore_areas.ensures.spares told can_b piece has all bytes (g.F.Tree.calls c.sync.new.tree) (record { calls = Same; shows = shows })).shows)
    (λ piece bytes has all shows left. c.restore_areas.ensures.keeps told can_b piece bytes has all shows left)
    (moment_of g.F.Tree c.sync-2.new.tree) (course_of g.F.Tree _ _ c.sync-2.ensures.frame) (c.sync-2.ensures.same told) (c.sync-2.ensures.stops told) (c.sync-2.ensures.within told root)
    c.sync-2.result (c.sync-2.ensures.synced told) c.sync-2.ensures.fault (c.in_ok-restore_areas.ensures.done told can_b)
