use Rattle.std.proofs.Common.{◌≡◌, ◌⊎◌, ap, inl, refl, rules, subst, w64, Err, FitsSigned}
use Rattle.std.proofs.lemmas.Int.{to_z-of_z}
use Rattle.cluster_tree.specs.Frame.{moment_of}
use Rattle.reset_plan.specs.ResetFaults.{IsFree}
use Rattle.reset_plan.specs.Prepared.{IsOfNames, reset_by}
use Rattle.reset_plan.specs.Reset.{control_told, reset_of}
use Rattle.reset_cleanup.proofs.MeantLemmas.{after-prepared, not_dry, unrefused-by}
use Rattle.reset_cleanup.proofs.ResetLemmas.{control-by, err-not_read, forms-of, meets-of, no-write, only-change, only-of, refused-told, runs-broken, runs-from, told-at}
use Rattle.reset_cleanup.specs.Stopping.{IsLeft}
use Rattle.reset_cleanup.proofs.StopLemmas.{meant-left, off-mark, reads-leave}
use Rattle.reset_cleanup.proofs.reset.reset_log.Goals as goal

pub returns-in-Ok-clause-exact : goal.returns-in-Ok-clause-exact
returns-in-Ok-clause-exact g c told =
    let fits : FitsSigned w64 c.args.now = search rules in
    let same = to_z-of_z w64 c.args.now fits in
    let meant = told-at (g.F.Tree.contents c.args.tree.now) c.args.root.now c.args.options.now _ c.args.now _ same (c.in-Ok.ensures.exact told) in
    meets-of _ (reset_by c.in-Ok.prepared) c.reset_prepared.result meant c.reset_prepared.ensures.control (only-of c.reset_prepared.result _ c.reset_prepared.ensures.only)
    (c.reset_prepared.ensures.changed told
    (unrefused-by _ _ c.args.root.now c.args.options.now c.args.now c.in-Ok.prepared (g.met.F.Tree.is_tree told c.args.tree.now) meant c.prepare.ensures.reads.same))

pub returns-in-Err-clause-exact : goal.returns-in-Err-clause-exact
returns-in-Err-clause-exact g c told =
    let fits : FitsSigned w64 c.args.now = search rules in
    let same = to_z-of_z w64 c.args.now fits in
    subst (λ n. IsFree c.in-Err.fault ⊎ (control_told (reset_of (g.F.Tree.contents c.args.tree.now) c.args.root.now c.args.options.now n) ≡ Err c.in-Err.fault)) same
    (refused-told _ c.in-Err.fault (c.in-Err.ensures.exact told))

pub returns-in-Ok-clause-form : goal.returns-in-Ok-clause-form
returns-in-Ok-clause-form g c =
    let fits : FitsSigned w64 c.args.now = search rules in
    let same = to_z-of_z w64 c.args.now fits in
    forms-of _ (g.F.Tree.contents c.args.tree.now) c.args.root.now c.args.options.now c.args.now (reset_by c.in-Ok.prepared) c.reset_prepared.result
    (subst (λ n. IsOfNames c.args.root.now c.args.options.now n (reset_by c.in-Ok.prepared)) same c.in-Ok.ensures.form)
    (λ told. told-at (g.F.Tree.contents c.args.tree.now) c.args.root.now c.args.options.now _ c.args.now _ same (c.in-Ok.ensures.exact told)) c.reset_prepared.ensures.control

pub returns-in-Err-clause-form : goal.returns-in-Err-clause-form
returns-in-Err-clause-form g c write = absurd (c.in-Err.ensures.write_fault (ap Err write))

pub returns-in-Ok-clause-writes : goal.returns-in-Ok-clause-writes
returns-in-Ok-clause-writes g c told reset is =
    let fits : FitsSigned w64 c.args.now = search rules in
    let same = to_z-of_z w64 c.args.now fits in
    let meant = told-at (g.F.Tree.contents c.args.tree.now) c.args.root.now c.args.options.now _ c.args.now _ same (c.in-Ok.ensures.exact told) in
    runs-from _ (reset_by c.in-Ok.prepared) reset _ _ _ _ _ _ _ meant is c.prepare.ensures.reads.uncalled c.prepare.ensures.reads.same
    (c.reset_prepared.ensures.runs told
    (unrefused-by _ _ c.args.root.now c.args.options.now c.args.now c.in-Ok.prepared (g.met.F.Tree.is_tree told c.args.tree.now) meant c.prepare.ensures.reads.same))

pub returns-in-Err-clause-writes : goal.returns-in-Err-clause-writes
returns-in-Err-clause-writes g c told reset is = runs-broken _ _ _ _ _ c.prepare.ensures.reads.uncalled c.prepare.ensures.reads.same

pub returns-in-Ok-clause-after : goal.returns-in-Ok-clause-after
returns-in-Ok-clause-after g c told dry =
    let tree = g.met.F.Tree.is_tree told c.args.tree.now in
    let fits : FitsSigned w64 c.args.now = search rules in
    let same = to_z-of_z w64 c.args.now fits in
    let meant = told-at (g.F.Tree.contents c.args.tree.now) c.args.root.now c.args.options.now _ c.args.now _ same (c.in-Ok.ensures.exact told) in
    after-prepared _ _ _ _ _ c.args.root.now c.args.options.now c.args.now c.in-Ok.prepared c.reset_prepared.result tree dry meant c.reset_prepared.ensures.control c.reset_prepared.ensures.size c.prepare.ensures.reads.same
    (c.reset_prepared.ensures.runs told
    (unrefused-by _ _ c.args.root.now c.args.options.now c.args.now c.in-Ok.prepared tree meant c.prepare.ensures.reads.same))

pub returns-in-Ok-clause-unchanged : goal.returns-in-Ok-clause-unchanged
returns-in-Ok-clause-unchanged g c = only-change _ c.reset_prepared.result (only-of c.reset_prepared.result _ c.reset_prepared.ensures.only)

pub returns-in-Ok-clause-control : goal.returns-in-Ok-clause-control
returns-in-Ok-clause-control g c = control-by c.in-Ok.prepared c.reset_prepared.result c.in-Ok.ensures.control c.reset_prepared.ensures.control

pub returns-in-Ok-clause-read_fault : goal.returns-in-Ok-clause-read_fault
returns-in-Ok-clause-read_fault g c h = absurd (err-not_read c.reset_prepared.result (only-of c.reset_prepared.result _ c.reset_prepared.ensures.only) h)

pub returns-in-Ok-clause-dry_faults : goal.returns-in-Ok-clause-dry_faults
returns-in-Ok-clause-dry_faults g c dry = no-write c.reset_prepared.result _ c.reset_prepared.ensures.only (c.in-Ok.ensures.dry dry)

pub returns-in-Ok-clause-changed : goal.returns-in-Ok-clause-changed
returns-in-Ok-clause-changed g c told =
    let fits : FitsSigned w64 c.args.now = search rules in
    let same = to_z-of_z w64 c.args.now fits in
    c.reset_prepared.ensures.changed told
    (unrefused-by _ _ c.args.root.now c.args.options.now c.args.now c.in-Ok.prepared (g.met.F.Tree.is_tree told c.args.tree.now) (told-at (g.F.Tree.contents c.args.tree.now) c.args.root.now c.args.options.now _ c.args.now _ same (c.in-Ok.ensures.exact told)) c.prepare.ensures.reads.same)

pub returns-in-Ok-clause-stops : goal.returns-in-Ok-clause-stops
returns-in-Ok-clause-stops g c told =
    let tree = g.met.F.Tree.is_tree told c.args.tree.now in
    let fits : FitsSigned w64 c.args.now = search rules in
    let same = to_z-of_z w64 c.args.now fits in
    let meant = told-at (g.F.Tree.contents c.args.tree.now) c.args.root.now c.args.options.now _ c.args.now _ same (c.in-Ok.ensures.exact told) in
    meant-left (g.F.Tree.contents c.args.tree.now) c.args.root.now c.args.options.now c.args.now tree g.F.Tree c.in-Ok.prepared _ _ _ refl meant c.prepare.ensures.reads
    (c.reset_prepared.ensures.stops told
    (unrefused-by _ _ c.args.root.now c.args.options.now c.args.now c.in-Ok.prepared tree meant c.prepare.ensures.reads.same)
    (off-mark (g.F.Tree.contents c.args.tree.now) c.args.root.now c.args.options.now c.args.now tree c.in-Ok.prepared meant))

pub returns-in-Err-clause-stops : goal.returns-in-Err-clause-stops
returns-in-Err-clause-stops g c told = reads-leave g.F.Tree (IsLeft c.args.root.now c.args.options.now c.args.now (moment_of g.F.Tree c.args.tree.now)) _ _ c.prepare.ensures.reads (λ x untouched. inl untouched)

pub returns-in-Ok-clause-synced : goal.returns-in-Ok-clause-synced
returns-in-Ok-clause-synced g c told dry =
    let tree = g.met.F.Tree.is_tree told c.args.tree.now in
    let fits : FitsSigned w64 c.args.now = search rules in
    let same = to_z-of_z w64 c.args.now fits in
    let meant = told-at (g.F.Tree.contents c.args.tree.now) c.args.root.now c.args.options.now _ c.args.now _ same (c.in-Ok.ensures.exact told) in
    c.reset_prepared.ensures.synced told
    (unrefused-by _ _ c.args.root.now c.args.options.now c.args.now c.in-Ok.prepared tree meant c.prepare.ensures.reads.same)
    (not_dry (g.F.Tree.contents c.args.tree.now) c.args.root.now c.args.options.now c.args.now c.in-Ok.prepared tree dry meant)
