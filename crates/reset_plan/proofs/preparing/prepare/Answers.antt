use Rattle.std.proofs.Common.{◌∙◌, subst, w64}
use Rattle.std.proofs.lemmas.Int.{to_z-of_z}
use Rattle.reset_plan.specs.Prepared.{Prepares}
use Rattle.reset_plan.specs.Reset.{reset_known}
use Rattle.reset_plan.proofs.PrepareLemmas.{of-control, of-known, of-marks}
use Rattle.reset_plan.proofs.preparing.prepare.Goals as goal

pub returns-in-Err-clause-exact : goal.returns-in-Err-clause-exact
returns-in-Err-clause-exact g c told = of-marks (g.F.Tree.contents c.args.tree.now) c.args.root.now c.args.options.now c.args.now c.in-Err.fault (c.in-Err.ensures.answer told)

pub returns-in-Err-control_at-clause-exact : goal.returns-in-Err-control_at-clause-exact
returns-in-Err-control_at-clause-exact g c told = of-control (g.F.Tree.contents c.args.tree.now) (g.F.Tree.contents c.check_marks.new.tree) c.args.root.now c.args.options.now c.args.now c.in-Err-control_at.fault (c.in-Ok.ensures.answer told) c.check_marks.ensures.reads.same (c.in-Err-control_at.ensures.exact told)

pub returns-clause-exact : goal.returns-clause-exact
returns-clause-exact g c told = of-known (g.F.Tree.contents c.args.tree.now) (g.F.Tree.contents c.check_marks.new.tree) (g.F.Tree.contents c.control_at.new.tree) c.args.root.now c.args.options.now c.args.now c.in-Ok-control_at.old c.prepare_known.result (c.in-Ok.ensures.answer told) c.check_marks.ensures.reads.same (c.control_at.ensures.reads.same ∙ c.check_marks.ensures.reads.same) (c.in-Ok-control_at.ensures.exact told) (subst (λ t. Prepares (reset_known (g.F.Tree.contents c.control_at.new.tree) c.args.root.now c.args.options.now t c.in-Ok-control_at.old) c.prepare_known.result) (to_z-of_z w64 c.args.now c.ranges.now) (c.prepare_known.ensures.exact told))
