use Rattle.std.proofs.lemmas.Result.{err_from_is_err_and}
use Rattle.cluster_tree.specs.Frame.{moment_of}
use Rattle.cluster_tree.specs.declared.file_fault.FileFault.TheVariants as file
use Rattle.cluster_tree.proofs.RunLemmas.{course_of}
use Rattle.rmgr_hooks.specs.Custom.{handed_in}
use Rattle.replay_restart.specs.Left.{Restarts}
use Rattle.replay_restart.specs.Meant.{Anew}
use Rattle.replay_restart.specs.Stopped.{Replaying}
use Rattle.replay_restart.proofs.AnewLemmas.{err-not_start, first-not, from-same, has-laid, laid-log, laid-within, not-laid_done, nothing-done, over-broken, over-done, prepared, reads-still, start-not_changed, start-why, stopped-begun, was-start}
use Rattle.replay_restart.proofs.OverLemmas.{NotChanged, as-any, err-not, files-not_changed, handed}
use Rattle.replay_restart.proofs.anew.replay_anew.Goals as goal

pub returns-in_err-begun-clause-restarts : goal.returns-in_err-begun-clause-restarts
returns-in_err-begun-clause-restarts g c = λ told.
    let a = moment_of g.F.Tree c.args.tree.now in
    let b = moment_of g.F.Tree c.start_again.new.tree in
    handed (Restarts _ c.args.root.now a b) c.from_residual.result _ (err_from_is_err_and c.from_residual.result c.from_residual.ensures.1)
    (nothing-done _ c.args.root.now a b _ (reads-still g.F.Tree _ _ c.start_again.ensures.reads) (start-why _ (g.F.Tree.contents c.args.tree.now) c.args.root.now _ (c.requires.taken told) (c.in_err-begun.ensures.exact told)))

pub returns-in_err-begun-clause-changed : goal.returns-in_err-begun-clause-changed
returns-in_err-begun-clause-changed g c = λ told.
    handed NotChanged c.from_residual.result _ (err_from_is_err_and c.from_residual.result c.from_residual.ensures.1)
    (start-not_changed _ (err-not_start _ (c.in_err-begun.ensures.changed told)))

pub returns-in_err-begin_copies-clause-restarts : goal.returns-in_err-begin_copies-clause-restarts
returns-in_err-begin_copies-clause-restarts g c = λ told.
    let root = c.args.root.now in
    let custom = handed_in g.M.Manager c.args.custom in
    let c0 = g.F.Tree.contents c.args.tree.now in
    let c1 = g.F.Tree.contents c.start_again.new.tree in
    let p = prepared custom root c0 c1 c.in_ok-begun.begun c.listed.result.now c.start_again.ensures.reads.same (g.met.F.Tree.is_tree told c.start_again.new.tree) (c.requires.taken told)
    (c.in_ok-begun.ensures.exact told) (c.in_ok-begun.ensures.listed told) c.listed.ensures.value in
    let a = moment_of g.F.Tree c.args.tree.now in
    let a1 = moment_of g.F.Tree c.start_again.new.tree in
    let b = moment_of g.F.Tree c.begin_copies.new.tree in
    handed (Restarts custom root a b) c.from_residual-in_err-begin_copies.result _ (err_from_is_err_and c.from_residual-in_err-begin_copies.result c.from_residual-in_err-begin_copies.ensures.1)
    (from-same custom root a a1 b _ (reads-still g.F.Tree _ _ c.start_again.ensures.reads)
    (not-laid_done custom root a1 b (c.begin_copies.ensures.elsewhere told p.ready) (c.begin_copies.ensures.calls told p.ready) (c.begin_copies.ensures.marked told p.ready)
    p.s c.listed.result.now _ p.taken p.may p.ready.list (c.begin_copies.ensures.stops told p.ready) (c.in_err-begin_copies.ensures.refused told p.ready) (c.in_err-begin_copies.ensures.stands told p.ready)))

pub returns-in_err-begin_copies-clause-first : goal.returns-in_err-begin_copies-clause-first
returns-in_err-begin_copies-clause-first g c = λ told e why. first-not _ (g.F.Tree.contents c.args.tree.now) c.args.root.now _ _ e (c.requires.taken told) (c.in_ok-begun.ensures.exact told).may why

pub returns-in_err-begin_copies-clause-changed : goal.returns-in_err-begin_copies-clause-changed
returns-in_err-begin_copies-clause-changed g c = λ told.
    let root = c.args.root.now in
    let custom = handed_in g.M.Manager c.args.custom in
    let c0 = g.F.Tree.contents c.args.tree.now in
    let c1 = g.F.Tree.contents c.start_again.new.tree in
    let p = prepared custom root c0 c1 c.in_ok-begun.begun c.listed.result.now c.start_again.ensures.reads.same (g.met.F.Tree.is_tree told c.start_again.new.tree) (c.requires.taken told)
    (c.in_ok-begun.ensures.exact told) (c.in_ok-begun.ensures.listed told) c.listed.ensures.value in
    handed NotChanged c.from_residual-in_err-begin_copies.result _ (err_from_is_err_and c.from_residual-in_err-begin_copies.result c.from_residual-in_err-begin_copies.ensures.1)
    (files-not_changed _ (λ q. err-not _ (file.Changed q) (c.in_err-begin_copies.ensures.changed told p.ready q)))

pub replay_over-requires-clause-checked : goal.replay_over-requires-clause-checked
replay_over-requires-clause-checked g c = λ told.
    let root = c.args.root.now in
    let custom = handed_in g.M.Manager c.args.custom in
    let c0 = g.F.Tree.contents c.args.tree.now in
    let c1 = g.F.Tree.contents c.start_again.new.tree in
    let p = prepared custom root c0 c1 c.in_ok-begun.begun c.listed.result.now c.start_again.ensures.reads.same (g.met.F.Tree.is_tree told c.start_again.new.tree) (c.requires.taken told)
    (c.in_ok-begun.ensures.exact told) (c.in_ok-begun.ensures.listed told) c.listed.ensures.value in
    let elsewhere = c.begin_copies.ensures.elsewhere told p.ready in (
      p.s,
      was-start custom root c1 (g.F.Tree.contents c.begin_copies.new.tree) c.in_ok-begun.begun.checked p.s p.may.passes p.is (c.in_ok-begun.ensures.knows told)
          (laid-log custom root (moment_of g.F.Tree c.start_again.new.tree) (moment_of g.F.Tree c.begin_copies.new.tree) elsewhere (c.begin_copies.ensures.calls told p.ready) (c.begin_copies.ensures.marked told p.ready)) elsewhere,
    )

pub returns-in_err-count-clause-first : goal.returns-in_err-count-clause-first
returns-in_err-count-clause-first g c = λ told e why. first-not _ (g.F.Tree.contents c.args.tree.now) c.args.root.now _ _ e (c.requires.taken told) (c.in_ok-begun.ensures.exact told).may why

pub returns-clause-first : goal.returns-clause-first
returns-clause-first g c = λ told e why. first-not _ (g.F.Tree.contents c.args.tree.now) c.args.root.now _ _ e (c.requires.taken told) (c.in_ok-begun.ensures.exact told).may why

pub returns-in_err-count-clause-changed : goal.returns-in_err-count-clause-changed
returns-in_err-count-clause-changed g c = λ told.
    let root = c.args.root.now in
    let custom = handed_in g.M.Manager c.args.custom in
    let c0 = g.F.Tree.contents c.args.tree.now in
    let c1 = g.F.Tree.contents c.start_again.new.tree in
    let p = prepared custom root c0 c1 c.in_ok-begun.begun c.listed.result.now c.start_again.ensures.reads.same (g.met.F.Tree.is_tree told c.start_again.new.tree) (c.requires.taken told)
    (c.in_ok-begun.ensures.exact told) (c.in_ok-begun.ensures.listed told) c.listed.ensures.value in
    handed NotChanged c.from_residual-in_err-count.result _ (err_from_is_err_and c.from_residual-in_err-count.result c.from_residual-in_err-count.ensures.1)
    (as-any _ (c.in_err-count.ensures.changed told (has-laid root c.listed.result.now c1 (g.F.Tree.contents c.begin_copies.new.tree) p.ready (c.in_ok-begin_copies.ensures.done told p.ready))))

pub returns-in_err-count-clause-restarts : goal.returns-in_err-count-clause-restarts
returns-in_err-count-clause-restarts g c = λ told.
    let root = c.args.root.now in
    let custom = handed_in g.M.Manager c.args.custom in
    let c0 = g.F.Tree.contents c.args.tree.now in
    let c1 = g.F.Tree.contents c.start_again.new.tree in
    let p = prepared custom root c0 c1 c.in_ok-begun.begun c.listed.result.now c.start_again.ensures.reads.same (g.met.F.Tree.is_tree told c.start_again.new.tree) (c.requires.taken told)
    (c.in_ok-begun.ensures.exact told) (c.in_ok-begun.ensures.listed told) c.listed.ensures.value in
    let a = moment_of g.F.Tree c.args.tree.now in
    let a1 = moment_of g.F.Tree c.start_again.new.tree in
    let b = moment_of g.F.Tree c.begin_copies.new.tree in
    let e = moment_of g.F.Tree c.replay_over.new.tree in
    let elsewhere = c.begin_copies.ensures.elsewhere told p.ready in
    let calls = c.begin_copies.ensures.calls told p.ready in
    let marked = c.begin_copies.ensures.marked told p.ready in
    let log = laid-log custom root a1 b elsewhere calls marked in
    let start = was-start custom root c1 (g.F.Tree.contents c.begin_copies.new.tree) c.in_ok-begun.begun.checked p.s p.may.passes p.is (c.in_ok-begun.ensures.knows told) log elsewhere in
    let laid = c.in_ok-begin_copies.ensures.done told p.ready in
    let has = has-laid root c.listed.result.now c1 (g.F.Tree.contents c.begin_copies.new.tree) p.ready laid in
    handed (Restarts custom root a e) c.from_residual-in_err-count.result _ (err_from_is_err_and c.from_residual-in_err-count.result c.from_residual-in_err-count.ensures.1)
    (from-same custom root a a1 e _ (reads-still g.F.Tree _ _ c.start_again.ensures.reads)
    (over-broken custom root a1 b p.s e (course_of g.F.Tree _ _ c.begin_copies.ensures.frame) (course_of g.F.Tree _ _ c.replay_over.ensures.frame) (Anew c.listed.result.now p.taken p.may p.ready.list laid) marked (laid-within custom root a1 b elsewhere calls marked) log
    (stopped-begun custom root a1 b p.s c.listed.result.now p.taken p.may p.ready.list (c.begin_copies.ensures.stops told p.ready)) (λ y run. Replaying p.s c.listed.result.now _ p.taken p.may p.ready.list laid run)
    _ (c.in_err-count.ensures.runs told p.s start has (c.in_ok-begin_copies.ensures.synced told p.ready))))

pub returns-clause-restarts : goal.returns-clause-restarts
returns-clause-restarts g c = λ told.
    let root = c.args.root.now in
    let custom = handed_in g.M.Manager c.args.custom in
    let c0 = g.F.Tree.contents c.args.tree.now in
    let c1 = g.F.Tree.contents c.start_again.new.tree in
    let p = prepared custom root c0 c1 c.in_ok-begun.begun c.listed.result.now c.start_again.ensures.reads.same (g.met.F.Tree.is_tree told c.start_again.new.tree) (c.requires.taken told)
    (c.in_ok-begun.ensures.exact told) (c.in_ok-begun.ensures.listed told) c.listed.ensures.value in
    let a = moment_of g.F.Tree c.args.tree.now in
    let a1 = moment_of g.F.Tree c.start_again.new.tree in
    let b = moment_of g.F.Tree c.begin_copies.new.tree in
    let e = moment_of g.F.Tree c.replay_over.new.tree in
    let elsewhere = c.begin_copies.ensures.elsewhere told p.ready in
    let calls = c.begin_copies.ensures.calls told p.ready in
    let marked = c.begin_copies.ensures.marked told p.ready in
    let log = laid-log custom root a1 b elsewhere calls marked in
    let start = was-start custom root c1 (g.F.Tree.contents c.begin_copies.new.tree) c.in_ok-begun.begun.checked p.s p.may.passes p.is (c.in_ok-begun.ensures.knows told) log elsewhere in
    let laid = c.in_ok-begin_copies.ensures.done told p.ready in
    let has = has-laid root c.listed.result.now c1 (g.F.Tree.contents c.begin_copies.new.tree) p.ready laid in
    from-same custom root a a1 e _ (reads-still g.F.Tree _ _ c.start_again.ensures.reads)
    (over-done custom root a1 b p.s e (course_of g.F.Tree _ _ c.begin_copies.ensures.frame) (course_of g.F.Tree _ _ c.replay_over.ensures.frame) (Anew c.listed.result.now p.taken p.may p.ready.list laid) marked (laid-within custom root a1 b elsewhere calls marked) log
    (stopped-begun custom root a1 b p.s c.listed.result.now p.taken p.may p.ready.list (c.begin_copies.ensures.stops told p.ready)) (λ y run. Replaying p.s c.listed.result.now _ p.taken p.may p.ready.list laid run)
    _ (c.in_ok-count.ensures.runs told p.s start has (c.in_ok-begin_copies.ensures.synced told p.ready)))
