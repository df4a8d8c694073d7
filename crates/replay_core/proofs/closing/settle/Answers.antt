use Rattle.std.proofs.Common.{◌≡◌, ◌∙◌, ap, inl, refl, subst, sym, Err}
use Rattle.cluster_tree.specs.Run.{state_by}
use Rattle.clusters.specs.declared.fault.ClusterFault.TheVariants as cluster
use Rattle.replay_control.specs.Following.{control_left}
use Rattle.replay_start.specs.declared.fault.ReplayFault.TheVariants as fault
use Rattle.replay_world.specs.World.{world_of}
use Rattle.replay_core.specs.Faults.{IsFree}
use Rattle.replay_core.proofs.EndLemmas.{files-ran, none-ran, settled-ok}
use Rattle.replay_core.proofs.JoinLemmas.{changed-of, free-of, none-least}
use Rattle.replay_core.proofs.closing.settle.Goals as goal

pub returns-in-Some-clause-ran : goal.returns-in-Some-clause-ran
returns-in-Some-clause-ran g c told = none-ran _ (state_by g.F.Tree.contents g.F.Tree.calls c.args.tree.now)

pub returns-in-Ok-clause-exact : goal.returns-in-Ok-clause-exact
returns-in-Ok-clause-exact g c told =
    let w = c.args.world.now in
    let ran = files-ran g.F.Tree w.files.root c.args.path c.args.label (control_left c.args.tli c.args.count.end.0 w.control) c.control_left.result _ _ _ c.requires.path c.requires.label c.control_left.ensures.value told (c.requires.stand told) c.in-Ok.ensures.performs in
    settled-ok w.files.root c.args.tli c.args.count.records c.args.count.end.0 (world_of (g.F.Tree.contents c.args.tree.now) w) _ _ (sym c.least.ensures ∙ none-least c.least.result c.in_default.not-Some) (ran.runs.after refl) refl refl refl

pub returns-in-Ok-clause-ran : goal.returns-in-Ok-clause-ran
returns-in-Ok-clause-ran g c told =
    let w = c.args.world.now in
    let ran = files-ran g.F.Tree w.files.root c.args.path c.args.label (control_left c.args.tli c.args.count.end.0 w.control) c.control_left.result _ _ _ c.requires.path c.requires.label c.control_left.ensures.value told (c.requires.stand told) c.in-Ok.ensures.performs in
    ran.runs

pub returns-in-Err-clause-exact : goal.returns-in-Err-clause-exact
returns-in-Err-clause-exact g c told =
    let w = c.args.world.now in
    let ran = files-ran g.F.Tree w.files.root c.args.path c.args.label (control_left c.args.tli c.args.count.end.0 w.control) c.control_left.result _ _ _ c.requires.path c.requires.label c.control_left.ensures.value told (c.requires.stand told) c.in-Err.ensures.performs in
    inl (subst IsFree (sym c.of_perform.ensures) (free-of c.in-Err.fault (λ h. c.in-Err.ensures.read_fault (ap Err h)) (λ p h. ran.agreed p (ap Err h))))

pub returns-in-Err-clause-ran : goal.returns-in-Err-clause-ran
returns-in-Err-clause-ran g c told =
    let w = c.args.world.now in
    let ran = files-ran g.F.Tree w.files.root c.args.path c.args.label (control_left c.args.tli c.args.count.end.0 w.control) c.control_left.result _ _ _ c.requires.path c.requires.label c.control_left.ensures.value told (c.requires.stand told) c.in-Err.ensures.performs in
    ran.runs

pub returns-in-Err-clause-changed : goal.returns-in-Err-clause-changed
returns-in-Err-clause-changed g c told p h =
    let w = c.args.world.now in
    let ran = files-ran g.F.Tree w.files.root c.args.path c.args.label (control_left c.args.tli c.args.count.end.0 w.control) c.control_left.result _ _ _ c.requires.path c.requires.label c.control_left.ensures.value told (c.requires.stand told) c.in-Err.ensures.performs in
    let e : c.of_perform.result ≡ fault.Cluster (cluster.Changed p) = cc h in
    ran.agreed p (ap Err (changed-of c.in-Err.fault p (sym c.of_perform.ensures ∙ e)))
