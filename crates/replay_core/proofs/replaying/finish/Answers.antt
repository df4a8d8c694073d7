use Rattle.std.proofs.Common.{◌≡◌, ◌∙◌, ap, inl, refl, sym, subst, true, false, Ok, Err}
use Rattle.std.proofs.lemmas.Result.{err_from_is_err_and}
use Rattle.cluster_tree.specs.Run.{state_by}
use Rattle.cluster_tree.proofs.RunLemmas.{came_on}
use Rattle.replay_control.specs.Following.{control_left}
use Rattle.clusters.specs.declared.fault.ClusterFault.TheVariants as cluster
use Rattle.replay_start.specs.declared.fault.ReplayFault.TheVariants as fault
use Rattle.replay_world.specs.World.{world_of}
use Rattle.replay_core.specs.Faults.{IsFree}
use Rattle.replay_core.specs.Went.{Closing}
use Rattle.replay_core.proofs.EndLemmas.{closed-ok, closing-begun, closing-ran, end-unrefused, mark-ended, mark-still, settled-by}
use Rattle.replay_core.proofs.JoinLemmas.{changed-of, free-of, went-broken}
use Rattle.replay_core.proofs.StopLemmas.{close-left, closed-left, durable, files-marked}
use Rattle.replay_core.proofs.SparingLemmas.{closing-spares, files-spare}
use Rattle.replay_core.proofs.WithinLemmas.{mark-on}
use Rattle.replay_core.proofs.replaying.finish.Goals as goal

pub returns-in_err-told-clause-went : goal.returns-in_err-told-clause-went
returns-in_err-told-clause-went g c told marked records =
    let left = control_left c.args.tli c.args.count.end.0 c.args.world.control in
    went-broken c.args.world.files.root marked (state_by g.F.Tree.contents g.F.Tree.calls c.settle.new.tree) c.from_residual.result _ (err_from_is_err_and c.from_residual.result c.from_residual.ensures.1).1
    (Closing (state_by g.F.Tree.contents g.F.Tree.calls c.args.tree.now) left records
    (closing-begun g.F.Tree told c.args.world.files.root c.args.paths.mark left c.args.tree.now c.settle.new.tree false c.requires.paths.mark (c.requires.stand told).mark (c.in_err-told.ensures.ran told) (refl {a = false})))

pub returns-in_err-told-clause-stands : goal.returns-in_err-told-clause-stands
returns-in_err-told-clause-stands g c told =
    mark-on c.args.world.files.root (g.F.Tree.contents c.settle.new.tree) c.from_residual.result
    (mark-still g.F.Tree told c.args.world.files.root c.args.paths.mark (control_left c.args.tli c.args.count.end.0 c.args.world.control) c.args.tree.now c.settle.new.tree _ c.requires.paths.mark (c.requires.stand told).mark (c.settle.ensures.ran told))

pub returns-in_err-told-clause-stops : goal.returns-in_err-told-clause-stops
returns-in_err-told-clause-stops g c told marked =
    files-marked g.F.Tree c.args.world.files.root (control_left c.args.tli c.args.count.end.0 c.args.world.control) c.args.tree.now c.settle.new.tree c.settle.ensures.frame marked _ (c.settle.ensures.ran told) _

pub returns-in_err-told-clause-spares : goal.returns-in_err-told-clause-spares
returns-in_err-told-clause-spares g c told piece is =
    files-spare c.args.world.files.root piece is g.F.Tree (control_left c.args.tli c.args.count.end.0 c.args.world.control) _ _ _ c.settle.ensures.frame (c.settle.ensures.ran told)

pub returns-in-Ok-clause-exact : goal.returns-in-Ok-clause-exact
returns-in-Ok-clause-exact g c told =
    let root = c.args.world.files.root in
    let ended = mark-ended g.F.Tree told root c.args.paths.mark (control_left c.args.tli c.args.count.end.0 c.args.world.control) c.args.tree.now c.settle.new.tree _ c.requires.paths.mark (c.requires.stand told).mark (c.settle.ensures.ran told) c.unmark.new.tree _ c.in-Ok.ensures.performs in
    closed-ok root c.args.tli c.args.count.records c.args.count.end.0 (world_of (g.F.Tree.contents c.args.tree.now) c.args.world) _ _ _ (c.in_ok-told.ensures.exact told) (ended.runs.after refl)

pub returns-in-Ok-clause-went : goal.returns-in-Ok-clause-went
returns-in-Ok-clause-went g c told marked records =
    let left = control_left c.args.tli c.args.count.end.0 c.args.world.control in
    Closing (state_by g.F.Tree.contents g.F.Tree.calls c.args.tree.now) left records
    (closing-ran g.F.Tree told c.args.world.files.root c.args.paths.mark left c.args.tree.now c.settle.new.tree true c.requires.paths.mark (c.requires.stand told).mark (c.in_ok-told.ensures.ran told) c.unmark.new.tree _ (refl {a = true}) c.in-Ok.ensures.performs)

pub returns-clause-exact : goal.returns-clause-exact
returns-clause-exact g c told =
    let ended = mark-ended g.F.Tree told c.args.world.files.root c.args.paths.mark (control_left c.args.tli c.args.count.end.0 c.args.world.control) c.args.tree.now c.settle.new.tree true c.requires.paths.mark (c.requires.stand told).mark (c.in_ok-told.ensures.ran told) c.unmark.new.tree _ c.in-Err.ensures.performs in
    inl (subst IsFree (sym c.of_perform.ensures) (free-of c.in-Err.fault (λ h. c.in-Err.ensures.read_fault (ap Err h)) (λ p h. ended.agreed p (ap Err h))))

pub returns-clause-went : goal.returns-clause-went
returns-clause-went g c told marked records =
    let left = control_left c.args.tli c.args.count.end.0 c.args.world.control in
    Closing (state_by g.F.Tree.contents g.F.Tree.calls c.args.tree.now) left records
    (closing-ran g.F.Tree told c.args.world.files.root c.args.paths.mark left c.args.tree.now c.settle.new.tree true c.requires.paths.mark (c.requires.stand told).mark (c.in_ok-told.ensures.ran told) c.unmark.new.tree _ (refl {a = true}) c.in-Err.ensures.performs)

pub returns-in-Ok-clause-synced : goal.returns-in-Ok-clause-synced
returns-in-Ok-clause-synced g c told =
    durable _ _ (Ok tt)
    (c.in-Ok.ensures.synced told (end-unrefused g.F.Tree told c.args.world.files.root c.args.paths.mark (control_left c.args.tli c.args.count.end.0 c.args.world.control) c.args.tree.now c.settle.new.tree true c.requires.paths.mark (c.requires.stand told).mark (c.in_ok-told.ensures.ran told)))

pub returns-in-Ok-clause-stops : goal.returns-in-Ok-clause-stops
returns-in-Ok-clause-stops g c told marked =
    let root = c.args.world.files.root in
    let left = control_left c.args.tli c.args.count.end.0 c.args.world.control in
    let w = world_of (g.F.Tree.contents c.args.tree.now) c.args.world in
    closed-left root c.args.tli c.args.count.records c.args.count.end.0 w left _ _ (settled-by root c.args.tli c.args.count.records c.args.count.end.0 w _ _ (c.in_ok-told.ensures.exact told)).none refl
    (close-left g.F.Tree root left c.args.tree.now c.settle.new.tree c.settle.ensures.frame marked true (c.in_ok-told.ensures.ran told) c.args.paths.mark c.unmark.new.tree c.requires.paths.mark (refl {a = true}) c.unmark.ensures.frame (c.unmark.ensures.stops told))

pub returns-clause-stops : goal.returns-clause-stops
returns-clause-stops g c told marked =
    let root = c.args.world.files.root in
    let left = control_left c.args.tli c.args.count.end.0 c.args.world.control in
    let w = world_of (g.F.Tree.contents c.args.tree.now) c.args.world in
    closed-left root c.args.tli c.args.count.records c.args.count.end.0 w left _ _ (settled-by root c.args.tli c.args.count.records c.args.count.end.0 w _ _ (c.in_ok-told.ensures.exact told)).none refl
    (close-left g.F.Tree root left c.args.tree.now c.settle.new.tree c.settle.ensures.frame marked true (c.in_ok-told.ensures.ran told) c.args.paths.mark c.unmark.new.tree c.requires.paths.mark (refl {a = true}) c.unmark.ensures.frame (c.unmark.ensures.stops told))

pub returns-in-Ok-clause-spares : goal.returns-in-Ok-clause-spares
returns-in-Ok-clause-spares g c told piece is =
    let left = control_left c.args.tli c.args.count.end.0 c.args.world.control in
    closing-spares c.args.world.files.root piece is g.F.Tree left c.args.tree.now c.unmark.new.tree _ (came_on g.F.Tree c.args.tree.now c.settle.new.tree c.unmark.new.tree c.settle.ensures.frame c.unmark.ensures.frame)
    (closing-ran g.F.Tree told c.args.world.files.root c.args.paths.mark left c.args.tree.now c.settle.new.tree true c.requires.paths.mark (c.requires.stand told).mark (c.in_ok-told.ensures.ran told) c.unmark.new.tree _ (refl {a = true}) c.in-Ok.ensures.performs)

pub returns-clause-spares : goal.returns-clause-spares
returns-clause-spares g c told piece is =
    let left = control_left c.args.tli c.args.count.end.0 c.args.world.control in
    closing-spares c.args.world.files.root piece is g.F.Tree left c.args.tree.now c.unmark.new.tree _ (came_on g.F.Tree c.args.tree.now c.settle.new.tree c.unmark.new.tree c.settle.ensures.frame c.unmark.ensures.frame)
    (closing-ran g.F.Tree told c.args.world.files.root c.args.paths.mark left c.args.tree.now c.settle.new.tree true c.requires.paths.mark (c.requires.stand told).mark (c.in_ok-told.ensures.ran told) c.unmark.new.tree _ (refl {a = true}) c.in-Err.ensures.performs)

pub returns-clause-changed : goal.returns-clause-changed
returns-clause-changed g c told p h =
    let ended = mark-ended g.F.Tree told c.args.world.files.root c.args.paths.mark (control_left c.args.tli c.args.count.end.0 c.args.world.control) c.args.tree.now c.settle.new.tree true c.requires.paths.mark (c.requires.stand told).mark (c.in_ok-told.ensures.ran told) c.unmark.new.tree _ c.in-Err.ensures.performs in
    let e : c.of_perform.result ≡ fault.Cluster (cluster.Changed p) = cc h in
    ended.agreed p (ap Err (changed-of c.in-Err.fault p (sym c.of_perform.ensures ∙ e)))

pub returns-clause-stands : goal.returns-clause-stands
returns-clause-stands g c told =
    let ended = mark-ended g.F.Tree told c.args.world.files.root c.args.paths.mark (control_left c.args.tli c.args.count.end.0 c.args.world.control) c.args.tree.now c.settle.new.tree true c.requires.paths.mark (c.requires.stand told).mark (c.in_ok-told.ensures.ran told) c.unmark.new.tree _ c.in-Err.ensures.performs in
    inl (subst IsFree (sym c.of_perform.ensures) (free-of c.in-Err.fault (λ h. c.in-Err.ensures.read_fault (ap Err h)) (λ p h. ended.agreed p (ap Err h))))
