use Rattle.std.proofs.Common.{FitsSigned, ◌∙◌, rules, subst, sym, w64}
use Rattle.std.proofs.lemmas.Int.{to_z-of_z}
use Rattle.rewind_core.specs.Planned.{planned_of}
use Rattle.cmd_rewind.specs.Marks.{seen_by}
use Rattle.cmd_rewind.specs.Rewind.{IsRewind}
use Rattle.cmd_rewind.proofs.FormLemmas.{fits_at, planned-form, planned_answers, task_for}
use Rattle.cmd_rewind.proofs.rewinds.check.Goals as goal

pub returns-in-Ok-clause-exact : goal.returns-in-Ok-clause-exact
returns-in-Ok-clause-exact g c tells =
    let fits : FitsSigned w64 c.args.now = search rules in
    let contents = g.F.Tree.contents c.args.tree.now in
    let view = seen_by c.args.own c.args.words.now.target contents in
    c.in-Ok.ensures.exact contents
    ∙ planned_answers c.args.words.now.dry_run view contents (planned_of view c.args.words.now.target c.args.words.now.source c.args.now) c.in_ok-planned.planned
    (fits_at view contents c.args.words.now (to_z-of_z w64 c.args.now fits) c.in_ok-planned.planned (c.in_ok-planned.ensures.exact tells))

pub returns-in-Ok-clause-form : goal.returns-in-Ok-clause-form
returns-in-Ok-clause-form g c contents =
    subst (IsRewind c.args.words.now) (sym (c.in-Ok.ensures.exact contents)) (planned-form c.args.words.now contents c.in_ok-planned.planned c.in_ok-planned.ensures.made)

pub returns-in-Ok-clause-planned : goal.returns-in-Ok-clause-planned
returns-in-Ok-clause-planned g c tells =
    let fits : FitsSigned w64 c.args.now = search rules in
    let contents = g.F.Tree.contents c.args.tree.now in
    let view = seen_by c.args.own c.args.words.now.target contents in
    task_for c.args.words.now.dry_run view (planned_of view c.args.words.now.target c.args.words.now.source c.args.now) c.in_ok-planned.planned c.in-Ok.task
    (fits_at view contents c.args.words.now (to_z-of_z w64 c.args.now fits) c.in_ok-planned.planned (c.in_ok-planned.ensures.exact tells)) c.in-Ok.ensures.own
