use Rattle.std.proofs.Common.{◌≡◌, ◌∙◌, IfErr, ap, inl, refl, subst, sym, Err}
use Rattle.rmgr_hooks.specs.Custom.{handed_in}
use Rattle.std.proofs.lemmas.Result.{err_from_is_err_and}
use Rattle.std.specs.Prelude.{is_ok}
use Rattle.cluster_tree.specs.Frame.{moment_of}
use Rattle.cluster_tree.specs.Run.{state_by}
use Rattle.clusters.specs.declared.fault.ClusterFault.TheVariants as cluster
use Rattle.cluster_tree.specs.Stops.{LeavesOnly}
use Rattle.marked_runs.specs.Moments.{StandsMarked}
use Rattle.replay_start.specs.declared.fault.ReplayFault.TheVariants as fault
use Rattle.replay_world.specs.World.{world_of}
use Rattle.replay_core.specs.Faults.{IsFree}
use Rattle.replay_core.specs.Replayed.{mark_of, replayed_into}
use Rattle.replay_core.specs.Stages.{Stand, start_in}
use Rattle.replay_core.specs.Stops.{IsMarkedOrDone}
use Rattle.replay_core.specs.Went.{Answers, Begins, Marked, WentOn}
use Rattle.replay_core.proofs.JoinLemmas.{about-changed, about-read, begun-ran, changed-of, first-meant, free-of, went-nowhere}
use Rattle.replay_core.proofs.StartedLemmas.{mark-unrefused, under-mark}
use Rattle.replay_core.proofs.StopLemmas.{begun-left, begun-then, begun-unrefused, nothing-left}
use Rattle.replay_core.specs.Within.{LeavesMark}
use Rattle.storage_replay.specs.Sparing.{piece_of}
use Rattle.file_edits.specs.Sparing.{Spares}
use Rattle.file_edits.proofs.SparingLemmas.{spared-on}
use Rattle.replay_world.specs.Touched.{touched_by}
use Rattle.replay_start.specs.Checked.{Start}
use Rattle.std.proofs.Common.{ℕ, ◌<◌}
use Rattle.replay_core.proofs.SparingLemmas.{beginning-spares, block-replayed}
use Rattle.replay_core.proofs.replaying.replay_checked.Goals as goal

pub returns-in_err-paths-clause-went : goal.returns-in_err-paths-clause-went
returns-in_err-paths-clause-went g c told =
    let now = state_by g.F.Tree.contents g.F.Tree.calls c.args.tree.now in
    went-nowhere c.args.root.now now now c.from_residual.result _ (err_from_is_err_and c.from_residual.result c.from_residual.ensures.1).1 refl refl

pub returns-in_err-world-clause-went : goal.returns-in_err-world-clause-went
returns-in_err-world-clause-went g c told =
    let now = state_by g.F.Tree.contents g.F.Tree.calls c.args.tree.now in
    went-nowhere c.args.root.now now now c.from_residual-in_err-world.result _ (err_from_is_err_and c.from_residual-in_err-world.result c.from_residual-in_err-world.ensures.1).1 refl refl

pub returns-in_err-room-clause-went : goal.returns-in_err-room-clause-went
returns-in_err-room-clause-went g c told =
    let now = state_by g.F.Tree.contents g.F.Tree.calls c.args.tree.now in
    went-nowhere c.args.root.now now now c.from_residual-in_err-room.result _ (err_from_is_err_and c.from_residual-in_err-room.result c.from_residual-in_err-room.ensures.1).1 refl refl

pub replay_begun-requires-clause-log : goal.replay_begun-requires-clause-log
replay_begun-requires-clause-log g c told =
    let before = g.F.Tree.contents c.args.tree.now in
    let none = mark-unrefused _ before c.args.root.now c.args.checked (g.met.F.Tree.is_tree told c.args.tree.now) (c.requires.checked told) in
    let ran = begun-ran g.F.Tree c.args.root.now c.in_ok-paths.paths.mark _ _ _ c.in_ok-paths.ensures.paths.mark told none c.in-Ok.ensures.carries in
    let under = under-mark _ before (g.F.Tree.contents c.begin_mark.new.tree) c.args.root.now c.args.checked (c.requires.checked told) c.requires.folder (ran.runs.after refl) in
    under.log

pub replay_begun-requires-clause-stand : goal.replay_begun-requires-clause-stand
replay_begun-requires-clause-stand g c told =
    let before = g.F.Tree.contents c.args.tree.now in
    let none = mark-unrefused _ before c.args.root.now c.args.checked (g.met.F.Tree.is_tree told c.args.tree.now) (c.requires.checked told) in
    let ran = begun-ran g.F.Tree c.args.root.now c.in_ok-paths.paths.mark _ _ _ c.in_ok-paths.ensures.paths.mark told none c.in-Ok.ensures.carries in
    let under = under-mark _ before (g.F.Tree.contents c.begin_mark.new.tree) c.args.root.now c.args.checked (c.requires.checked told) c.requires.folder (ran.runs.after refl) in
    subst (λ p. Stand (g.F.Tree.contents c.begin_mark.new.tree) p) (sym c.in_ok-world.ensures.root) under.stand

pub returns-in-Ok-clause-exact : goal.returns-in-Ok-clause-exact
returns-in-Ok-clause-exact g c told =
    let before = g.F.Tree.contents c.args.tree.now in
    let none = mark-unrefused _ before c.args.root.now c.args.checked (g.met.F.Tree.is_tree told c.args.tree.now) (c.requires.checked told) in
    let ran = begun-ran g.F.Tree c.args.root.now c.in_ok-paths.paths.mark _ _ _ c.in_ok-paths.ensures.paths.mark told none c.in-Ok.ensures.carries in
    let under = under-mark _ before (g.F.Tree.contents c.begin_mark.new.tree) c.args.root.now c.args.checked (c.requires.checked told) c.requires.folder (ran.runs.after refl) in
    let after = g.F.Tree.contents c.begin_mark.new.tree in
    subst (λ m. Answers m (g.F.Tree.contents c.replay_begun.new.tree) c.replay_begun.result)
    (first-meant _ c.args.root.now c.in_ok-world.world.files.root (start_in c.args.checked after) (start_in c.args.checked before) before (world_of after c.in_ok-world.world)
    c.in_ok-world.ensures.root under.start (ran.runs.after refl) c.in_ok-world.ensures.control c.in_ok-world.ensures.skipped)
    (c.replay_begun.ensures.exact told)

pub returns-in-Ok-clause-went : goal.returns-in-Ok-clause-went
returns-in-Ok-clause-went g c told =
    let before = g.F.Tree.contents c.args.tree.now in
    let none = mark-unrefused _ before c.args.root.now c.args.checked (g.met.F.Tree.is_tree told c.args.tree.now) (c.requires.checked told) in
    let ran = begun-ran g.F.Tree c.args.root.now c.in_ok-paths.paths.mark _ _ _ c.in_ok-paths.ensures.paths.mark told none c.in-Ok.ensures.carries in
    let marked = state_by g.F.Tree.contents g.F.Tree.calls c.begin_mark.new.tree in
    let new = state_by g.F.Tree.contents g.F.Tree.calls c.replay_begun.new.tree in
    Marked marked ran.runs (subst (λ p. WentOn p marked new (is_ok c.replay_begun.result)) c.in_ok-world.ensures.root (c.replay_begun.ensures.went told))

pub returns-in-Err-clause-exact : goal.returns-in-Err-clause-exact
returns-in-Err-clause-exact g c told =
    let before = g.F.Tree.contents c.args.tree.now in
    let none = mark-unrefused _ before c.args.root.now c.args.checked (g.met.F.Tree.is_tree told c.args.tree.now) (c.requires.checked told) in
    let ran = begun-ran g.F.Tree c.args.root.now c.in_ok-paths.paths.mark _ _ _ c.in_ok-paths.ensures.paths.mark told none c.in-Err.ensures.carries in
    let mark = c.in_ok-paths.paths.mark in
    inl (subst IsFree (sym c.of_perform.ensures) (free-of c.about.result
    (λ h. c.in-Err.ensures.read_fault (ap Err (about-read c.in-Err.fault mark (sym c.about.ensures ∙ h))))
    (λ p h. ran.agreed (ap Err (about-changed c.in-Err.fault mark p (sym c.about.ensures ∙ h))))))

pub returns-in-Err-clause-went : goal.returns-in-Err-clause-went
returns-in-Err-clause-went g c told =
    let before = g.F.Tree.contents c.args.tree.now in
    let none = mark-unrefused _ before c.args.root.now c.args.checked (g.met.F.Tree.is_tree told c.args.tree.now) (c.requires.checked told) in
    let ran = begun-ran g.F.Tree c.args.root.now c.in_ok-paths.paths.mark _ _ _ c.in_ok-paths.ensures.paths.mark told none c.in-Err.ensures.carries in
    Begins ran.runs

pub returns-in-Err-clause-changed : goal.returns-in-Err-clause-changed
returns-in-Err-clause-changed g c told p h =
    let before = g.F.Tree.contents c.args.tree.now in
    let none = mark-unrefused _ before c.args.root.now c.args.checked (g.met.F.Tree.is_tree told c.args.tree.now) (c.requires.checked told) in
    let ran = begun-ran g.F.Tree c.args.root.now c.in_ok-paths.paths.mark _ _ _ c.in_ok-paths.ensures.paths.mark told none c.in-Err.ensures.carries in
    let e : c.of_perform.result ≡ fault.Cluster (cluster.Changed p) = cc h in
    ran.agreed (ap Err (about-changed c.in-Err.fault c.in_ok-paths.paths.mark p (sym c.about.ensures ∙ changed-of c.about.result p (sym c.of_perform.ensures ∙ e))))

pub returns-in-Ok-clause-stands : goal.returns-in-Ok-clause-stands
returns-in-Ok-clause-stands g c told =
    subst (λ p. IfErr c.replay_begun.result (LeavesMark p (g.F.Tree.contents c.replay_begun.new.tree))) c.in_ok-world.ensures.root (c.replay_begun.ensures.stands told)

pub returns-in-Err-clause-stands : goal.returns-in-Err-clause-stands
returns-in-Err-clause-stands g c told =
    let before = g.F.Tree.contents c.args.tree.now in
    let none = mark-unrefused _ before c.args.root.now c.args.checked (g.met.F.Tree.is_tree told c.args.tree.now) (c.requires.checked told) in
    let ran = begun-ran g.F.Tree c.args.root.now c.in_ok-paths.paths.mark _ _ _ c.in_ok-paths.ensures.paths.mark told none c.in-Err.ensures.carries in
    let mark = c.in_ok-paths.paths.mark in
    inl (subst IsFree (sym c.of_perform.ensures) (free-of c.about.result
    (λ h. c.in-Err.ensures.read_fault (ap Err (about-read c.in-Err.fault mark (sym c.about.ensures ∙ h))))
    (λ p h. ran.agreed (ap Err (about-changed c.in-Err.fault mark p (sym c.about.ensures ∙ h))))))

pub returns-in_err-paths-clause-stops : goal.returns-in_err-paths-clause-stops
returns-in_err-paths-clause-stops g c told = nothing-left c.args.root.now (moment_of g.F.Tree c.args.tree.now) _

pub returns-in_err-world-clause-stops : goal.returns-in_err-world-clause-stops
returns-in_err-world-clause-stops g c told = nothing-left c.args.root.now (moment_of g.F.Tree c.args.tree.now) _

pub returns-in_err-room-clause-stops : goal.returns-in_err-room-clause-stops
returns-in_err-room-clause-stops g c told = nothing-left c.args.root.now (moment_of g.F.Tree c.args.tree.now) _

pub returns-in-Ok-clause-stops : goal.returns-in-Ok-clause-stops
returns-in-Ok-clause-stops g c told =
    let before = g.F.Tree.contents c.args.tree.now in
    let after = g.F.Tree.contents c.begin_mark.new.tree in
    let root = c.args.root.now in
    let mark = c.in_ok-paths.paths.mark in
    let is = c.in_ok-paths.ensures.paths.mark in
    let world = c.in_ok-world.world in
    let none = mark-unrefused _ before root c.args.checked (g.met.F.Tree.is_tree told c.args.tree.now) (c.requires.checked told) in
    let ran = begun-ran g.F.Tree root mark _ _ _ is told none c.in-Ok.ensures.carries in
    let under = under-mark _ before after root c.args.checked (c.requires.checked told) c.requires.folder (ran.runs.after refl) in
    let stands = subst (λ p. StandsMarked p (moment_of g.F.Tree c.begin_mark.new.tree)) (is ∙ ap mark_of (sym c.in_ok-world.ensures.root)) (c.in-Ok.ensures.marked told (begun-unrefused before root mark is none)) in
    let other = replayed_into (handed_in g.M.Manager c.args.custom) world.files.root (start_in c.args.checked after) (world_of after world) in
    begun-then g.F.Tree root mark _ c.args.tree.now c.begin_mark.new.tree is (c.in-Ok.ensures.stops told (begun-unrefused before root mark is none)) other c.replay_begun.new.tree c.in-Ok.ensures.frame c.replay_begun.ensures.frame
    (first-meant _ root world.files.root (start_in c.args.checked after) (start_in c.args.checked before) before (world_of after world) c.in_ok-world.ensures.root under.start (ran.runs.after refl) c.in_ok-world.ensures.control c.in_ok-world.ensures.skipped)
    (subst (λ p. LeavesOnly (IsMarkedOrDone p other) (g.F.Tree.stops c.begin_mark.new.tree) (g.F.Tree.stops c.replay_begun.new.tree)) c.in_ok-world.ensures.root (c.replay_begun.ensures.stops told stands))

pub returns-in-Err-clause-stops : goal.returns-in-Err-clause-stops
returns-in-Err-clause-stops g c told =
    let before = g.F.Tree.contents c.args.tree.now in
    let none = mark-unrefused _ before c.args.root.now c.args.checked (g.met.F.Tree.is_tree told c.args.tree.now) (c.requires.checked told) in
    let is = c.in_ok-paths.ensures.paths.mark in
    begun-left g.F.Tree c.args.root.now c.in_ok-paths.paths.mark _ c.args.tree.now c.begin_mark.new.tree is (c.in-Err.ensures.stops told (begun-unrefused before c.args.root.now c.in_ok-paths.paths.mark is none))

pub returns-in-Ok-clause-spares : goal.returns-in-Ok-clause-spares
returns-in-Ok-clause-spares g c told name is free =
    let before = g.F.Tree.contents c.args.tree.now in
    let root = c.args.root.now in
    let piece = piece_of root c.args.checked.control.relseg name in
    let some : 0 < c.args.checked.control.relseg = subst (λ n. 0 < n) c.in_ok-world.ensures.per_file c.in_ok-world.ensures.fit.some in
    let none = mark-unrefused _ before root c.args.checked (g.met.F.Tree.is_tree told c.args.tree.now) (c.requires.checked told) in
    let ran = begun-ran g.F.Tree root c.in_ok-paths.paths.mark _ _ _ c.in_ok-paths.ensures.paths.mark told none c.in-Ok.ensures.carries in
    let begins = beginning-spares root piece (block-replayed root c.args.checked.control.relseg name some is) g.F.Tree c.args.tree.now c.begin_mark.new.tree _ c.in-Ok.ensures.frame ran.runs in
    let after = g.F.Tree.contents c.begin_mark.new.tree in
    let under = under-mark _ before after root c.args.checked (c.requires.checked told) c.requires.folder (ran.runs.after refl) in
    let world = c.in_ok-world.world in
    let rest = c.replay_begun.ensures.spares told name is (ap (λ (s : Start). touched_by (handed_in g.M.Manager c.args.custom) s.records name) under.start ∙ free) in
    spared-on g.F.Tree piece _ _ _ begins
    (subst (λ (n : ℕ). Spares g.F.Tree (piece_of root n name) c.begin_mark.new.tree c.replay_begun.new.tree) c.in_ok-world.ensures.per_file
    (subst (λ p. Spares g.F.Tree (piece_of p world.files.per_file name) c.begin_mark.new.tree c.replay_begun.new.tree) c.in_ok-world.ensures.root rest))

pub returns-in-Err-clause-spares : goal.returns-in-Err-clause-spares
returns-in-Err-clause-spares g c told name is free =
    let before = g.F.Tree.contents c.args.tree.now in
    let root = c.args.root.now in
    let piece = piece_of root c.args.checked.control.relseg name in
    let some : 0 < c.args.checked.control.relseg = subst (λ n. 0 < n) c.in_ok-world.ensures.per_file c.in_ok-world.ensures.fit.some in
    let none = mark-unrefused _ before root c.args.checked (g.met.F.Tree.is_tree told c.args.tree.now) (c.requires.checked told) in
    let ran = begun-ran g.F.Tree root c.in_ok-paths.paths.mark _ _ _ c.in_ok-paths.ensures.paths.mark told none c.in-Err.ensures.carries in
    let begins = beginning-spares root piece (block-replayed root c.args.checked.control.relseg name some is) g.F.Tree c.args.tree.now c.begin_mark.new.tree _ c.in-Err.ensures.frame ran.runs in
    begins
