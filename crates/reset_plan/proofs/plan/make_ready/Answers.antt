use Rattle.std.proofs.Common.{◌∙◌, ap, inl, inr}
use Rattle.reset_plan.specs.Reset.{changes_of}
use Rattle.reset_plan.proofs.plan.make_ready.Goals as goal

pub returns-in-Err-plan_of-clause-exact : goal.returns-in-Err-plan_of-clause-exact
returns-in-Err-plan_of-clause-exact g c told = inl (inr (inr c.in-Err-plan_of.ensures.memory))

pub returns-in-Ok-plan_of-clause-changes : goal.returns-in-Ok-plan_of-clause-changes
returns-in-Ok-plan_of-clause-changes g c told = c.in-Ok-plan_of.ensures.changes ∙ ap (λ l. changes_of c.args.root.now l c.args.control c.args.segment) (c.in-Ok.ensures.gone told)

pub returns-in-Ok-plan_of-clause-form : goal.returns-in-Ok-plan_of-clause-form
returns-in-Ok-plan_of-clause-form g c = (c.in-Ok.ensures.form.0, c.in-Ok-plan_of.ensures.changes ∙ ap (λ l. changes_of c.args.root.now l c.args.control c.args.segment) c.in-Ok.ensures.form.1)
