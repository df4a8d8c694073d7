use Rattle.std.proofs.Common.{◌∙◌, sym}
use Rattle.reset_plan.proofs.PrepareLemmas.{clean, unclean}
use Rattle.reset_plan.proofs.plan.check_clean.Goals as goal

pub returns-then-may_reset-clause-answer : goal.returns-then-may_reset-clause-answer
returns-then-may_reset-clause-answer c = clean c.args.root.now c.args.old.now c.args.options.now (sym c.may_reset.ensures ∙ c.if-may_reset.true)

pub returns-clause-answer : goal.returns-clause-answer
returns-clause-answer c = unclean c.args.root.now c.args.old.now c.args.options.now c.unclean.result (sym c.may_reset.ensures ∙ c.if-may_reset.false) c.unclean.ensures.value
