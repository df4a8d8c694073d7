use Rattle.std.proofs.Common.{◌≡◌, ◌⊎◌, ◌∙◌, Ok, Err, inr, refl, subst}
use Rattle.std.proofs.lemmas.Result.{err_from_is_err_and}
use Rattle.rmgr_hooks.specs.Custom.{handed_in}
use Rattle.replay_areas.specs.Listing.{areas_listed}
use Rattle.file_walk.specs.Faults as walks
use Rattle.first_effects.specs.First.{IsLeastChanged}
use Rattle.restart_start.specs.Beginning.{Begins}
use Rattle.restart_start.specs.Gathered.{IsRefused, splits_of}
use Rattle.restart_start.specs.Records.{records_from}
use Rattle.restart_start.specs.declared.fault.RestartFault.TheVariants as fault
use Rattle.restart_start.proofs.StartLemmas.{begun, changed, handed, read-again, refused, still, wrong}
use Rattle.restart_start.proofs.starting.begin.Goals as goal

pub returns-in_err-checked-clause-exact : goal.returns-in_err-checked-clause-exact
returns-in_err-checked-clause-exact g c told =
    handed (Begins (handed_in g.M.Manager c.args.custom) (g.F.Tree.contents c.args.tree.now) c.args.root.now) c.from_residual.result (fault.Replay c.in_err-checked.field-0.0)
    (err_from_is_err_and c.from_residual.result c.from_residual.ensures.1)
    (refused (handed_in g.M.Manager c.args.custom) (g.F.Tree.contents c.args.tree.now) c.args.root.now c.in_err-checked.field-0.0 (c.in_err-checked.ensures.exact told))

pub returns-in_err-listed-clause-exact : goal.returns-in_err-listed-clause-exact
returns-in_err-listed-clause-exact g c told =
    let e = c.in_err-listed.field-0.0 in
    handed (Begins (handed_in g.M.Manager c.args.custom) (g.F.Tree.contents c.args.tree.now) c.args.root.now) c.from_residual-in_err-listed.result (fault.Walk e)
    (err_from_is_err_and c.from_residual-in_err-listed.result c.from_residual-in_err-listed.ensures.1)
    (wrong (handed_in g.M.Manager c.args.custom) (g.F.Tree.contents c.args.tree.now) c.args.root.now c.in_ok-checked.checked (c.in_ok-checked.ensures.exact told) e
    (subst (λ x. walks.IsFree e ⊎ (areas_listed x c.args.root.now ≡ Err e)) c.check.ensures.reads.same (c.in_err-listed.ensures.exact told)))

pub returns-in_err-name-clause-exact : goal.returns-in_err-name-clause-exact
returns-in_err-name-clause-exact g c told =
    let e = c.in_err-name.field-0.0 in
    let custom = handed_in g.M.Manager c.args.custom in
    handed (Begins custom (g.F.Tree.contents c.args.tree.now) c.args.root.now) c.from_residual-in_err-name.result (fault.Replay e)
    (err_from_is_err_and c.from_residual-in_err-name.result c.from_residual-in_err-name.ensures.1)
    (read-again custom (g.F.Tree.contents c.args.tree.now) c.args.root.now c.in_ok-checked.checked (c.in_ok-checked.ensures.exact told) e
    (subst (λ x. IsRefused custom (records_from c.in_ok-checked.checked x) e) (c.list_areas.ensures.reads.same ∙ c.check.ensures.reads.same) (c.in_err-name.ensures.exact told)))

pub returns-in-Some-clause-exact : goal.returns-in-Some-clause-exact
returns-in-Some-clause-exact g c told =
    let custom = handed_in g.M.Manager c.args.custom in
    inr (changed custom (g.F.Tree.contents c.args.tree.now) c.args.root.now c.in_ok-checked.checked (c.in_ok-checked.ensures.exact told) c.in_ok-listed.listed
    (subst (λ x. areas_listed x c.args.root.now ≡ Ok c.in_ok-listed.listed) c.check.ensures.reads.same (c.in_ok-listed.ensures.exact told)) c.in-Some.name
    (subst (λ o. IsLeastChanged custom (splits_of (records_from c.in_ok-checked.checked (g.F.Tree.contents c.args.tree.now))) o) c.in-Some.is
    (subst (λ x. IsLeastChanged custom (splits_of (records_from c.in_ok-checked.checked x)) c.in_ok-name.field-0) (c.list_areas.ensures.reads.same ∙ c.check.ensures.reads.same) (c.in_ok-name.ensures.exact told))))

pub returns-in-None-clause-exact : goal.returns-in-None-clause-exact
returns-in-None-clause-exact g c told =
    let custom = handed_in g.M.Manager c.args.custom in
    let checked = c.in_ok-checked.ensures.exact told in
    begun custom (g.F.Tree.contents c.args.tree.now) c.args.root.now c.in_ok-checked.checked checked c.in_ok-listed.listed
    (subst (λ x. areas_listed x c.args.root.now ≡ Ok c.in_ok-listed.listed) c.check.ensures.reads.same (c.in_ok-listed.ensures.exact told))
    (record { checked = c.first_changed.new.checked; listed = c.in_ok-listed.listed }) refl
    (still checked.0 c.in_ok-checked.checked c.first_changed.new.checked checked.2 c.first_changed.ensures.control c.first_changed.ensures.label c.first_changed.ensures.log c.first_changed.ensures.end)
    (subst (λ o. IsLeastChanged custom (splits_of (records_from c.in_ok-checked.checked (g.F.Tree.contents c.args.tree.now))) o) c.in-None.is
    (subst (λ x. IsLeastChanged custom (splits_of (records_from c.in_ok-checked.checked x)) c.in_ok-name.field-0) (c.list_areas.ensures.reads.same ∙ c.check.ensures.reads.same) (c.in_ok-name.ensures.exact told)))
