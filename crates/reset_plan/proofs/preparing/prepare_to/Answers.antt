use Rattle.std.proofs.Common.{[], rules, subst, sym}
use Rattle.control_file.specs.Admission.{IsControl}
use Rattle.reset_plan.specs.Plan.{plan_changes}
use Rattle.reset_plan.specs.Reset.{gone_of}
use Rattle.reset_plan.proofs.PrepareLemmas.{dry-with, ready-with, to-clean, to-dry, to-gone, to-ready}
use Rattle.reset_plan.proofs.ReadyLemmas.{listed-there}
use Rattle.reset_plan.proofs.preparing.prepare_to.Goals as goal

pub returns-then-is_some-clause-exact : goal.returns-then-is_some-clause-exact
returns-then-is_some-clause-exact g c told = to-dry (g.F.Tree.contents c.args.tree.now) c.args.root.now c.args.options.now c.args.old.now c.args.control c.args.segment (search rules)

pub returns-then-is_some-clause-form : goal.returns-then-is_some-clause-form
returns-then-is_some-clause-form g c = ([], dry-with c.args.root.now c.args.options.now c.args.control (gone_of c.args.wal.now c.args.names.now []) c.args.segment (search rules))

pub returns-in-Err-clause-exact : goal.returns-in-Err-clause-exact
returns-in-Err-clause-exact g c told = to-clean (g.F.Tree.contents c.args.tree.now) c.args.root.now c.args.options.now c.args.old.now c.args.control c.args.segment c.in-Err.fault (search rules) c.in-Err.ensures.answer

pub make_ready-requires-clause-there : goal.make_ready-requires-clause-there
make_ready-requires-clause-there g c told = listed-there (g.F.Tree.contents c.args.tree.now) c.args.wal.now c.args.names.now (c.requires.names told)

pub returns-in-Err-make_ready-clause-exact : goal.returns-in-Err-make_ready-clause-exact
returns-in-Err-make_ready-clause-exact g c told = to-gone (g.F.Tree.contents c.args.tree.now) c.args.root.now c.args.wal.now c.args.options.now c.args.old.now c.args.control c.args.segment c.args.names.now c.in-Err-make_ready.fault (search rules) c.in-Ok.ensures.answer c.requires.wal (c.requires.names told) (c.in-Err-make_ready.ensures.exact told)

pub returns-in-Ok-make_ready-clause-exact : goal.returns-in-Ok-make_ready-clause-exact
returns-in-Ok-make_ready-clause-exact g c told = to-ready (g.F.Tree.contents c.args.tree.now) c.args.root.now c.args.wal.now c.args.options.now c.args.old.now c.args.control c.in-Ok-make_ready.plan.body.control c.args.segment c.args.names.now (plan_changes c.in-Ok-make_ready.plan) (search rules) c.in-Ok.ensures.answer c.requires.wal (c.requires.names told) (c.in-Ok-make_ready.ensures.exact told) (c.in-Ok-make_ready.ensures.changes told) c.in-Ok-make_ready.ensures.control

pub returns-in-Ok-make_ready-clause-control : goal.returns-in-Ok-make_ready-clause-control
returns-in-Ok-make_ready-clause-control g c = subst IsControl (sym c.in-Ok-make_ready.ensures.control) c.requires.control

pub returns-in-Ok-make_ready-clause-form : goal.returns-in-Ok-make_ready-clause-form
returns-in-Ok-make_ready-clause-form g c = (c.in-Ok-make_ready.ensures.form.0, ready-with c.args.root.now c.args.options.now c.args.control c.in-Ok-make_ready.plan.body.control (gone_of c.args.wal.now c.args.names.now c.in-Ok-make_ready.ensures.form.0) c.args.segment (plan_changes c.in-Ok-make_ready.plan) (search rules) c.in-Ok-make_ready.ensures.form.1 c.in-Ok-make_ready.ensures.control)
