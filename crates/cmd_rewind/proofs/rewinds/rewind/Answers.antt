use Rattle.std.proofs.Common.{FitsSigned, inl, inr, refl, rules, subst, w64}
use Rattle.std.proofs.lemmas.Int.{to_z-of_z}
use Rattle.run_acts.proofs.AnswerSteps.{carries_acts, carries_look, last_exact}
use Rattle.run_acts.proofs.UnseenSteps.{told_wet, unseen_acts, unseen_by, unseen_still}
use Rattle.cluster_tree.specs.Frame.{moment_of}
use Rattle.cmd_rewind.specs.Marks.{seen_by}
use Rattle.cmd_rewind.specs.Tasks.{IsSaidTask, reported, task_acts}
use Rattle.cmd_rewind.specs.declared.tasks.Task.{Task}
use Rattle.cmd_rewind.specs.declared.tasks.Task.TheVariants as task
use Rattle.cmd_rewind.proofs.FormLemmas.{answer-form, answer-looks, form_as, known_as, passes_at, task_as, wet_as}
use Rattle.cmd_rewind.proofs.MakeLemmas.{leaves, lines_as}
use Rattle.cmd_rewind.proofs.OverLemmas.{over-by}
use Rattle.cmd_rewind.proofs.StopLemmas.{durable-by, looks-left, looks-same, makes-left, makes-resumable}
use Rattle.cmd_rewind.proofs.rewinds.rewind.Goals as goal

pub returns-in-Err-clause-carries : goal.returns-in-Err-clause-carries
returns-in-Err-clause-carries g c out_tells out =
    let fits : FitsSigned w64 c.args.now = search rules in
    let contents = g.F.Tree.contents c.args.tree.now in
    let view = seen_by c.args.own c.args.words.now.target contents in
    unseen_still c.check.ensures.reads.same c.check.ensures.reads.uncalled
    (λ d j. carries_look c.in-Err.e (answer-form view contents c.args.words.now c.args.now) (answer-looks view contents c.args.words.now c.args.now)
    (inr (inr (inr (inr (c.in-Err.e, c.in-Err.ensures.look, refl))))) c.in-Err.ensures.look
    (λ t. passes_at view contents c.args.words.now (to_z-of_z w64 c.args.now fits) c.in-Err.e (c.in-Err.ensures.exact t)) refl refl)

pub returns-in-Ok-Tell-clause-carries : goal.returns-in-Ok-Tell-clause-carries
returns-in-Ok-Tell-clause-carries g c out_tells out =
    let fits : FitsSigned w64 c.args.now = search rules in
    let contents = g.F.Tree.contents c.args.tree.now in
    let view = seen_by c.args.own c.args.words.now.target contents in
    unseen_still c.check.ensures.reads.same c.check.ensures.reads.uncalled
    (λ d j. carries_acts (reported c.in-Ok-Tell.lines) (known_as view contents c.args.words.now (to_z-of_z w64 c.args.now fits) c.in-Ok-Tell.field-0-is c.in-Ok-Tell.ensures.exact)
    (form_as c.args.words.now c.in-Ok-Tell.field-0-is c.in-Ok-Tell.ensures.form d)
    (last_exact c.report.result c.report.ensures.only) refl refl (c.report.ensures.performs out_tells out d j))

pub returns-in-Ok-Rewind-clause-carries : goal.returns-in-Ok-Rewind-clause-carries
returns-in-Ok-Rewind-clause-carries g c out_tells out =
    let fits : FitsSigned w64 c.args.now = search rules in
    let contents = g.F.Tree.contents c.args.tree.now in
    let view = seen_by c.args.own c.args.words.now.target contents in
    let dry = c.args.words.now.dry_run in
    unseen_by (told_wet dry (wet_as dry c.in-Ok-Rewind.field-0-is c.in-Ok-Rewind.ensures.wet)) (λ t. inl t)
    (unseen_acts (task_acts (task.Rewind c.in-Ok-Rewind.first c.in-Ok-Rewind.second c.in-Ok-Rewind.plan)) c.check.ensures.reads.same c.check.ensures.reads.uncalled (λ t. t)
    (known_as view contents c.args.words.now (to_z-of_z w64 c.args.now fits) c.in-Ok-Rewind.field-0-is c.in-Ok-Rewind.ensures.exact)
    (form_as c.args.words.now c.in-Ok-Rewind.field-0-is c.in-Ok-Rewind.ensures.form)
    (lines_as c.in-Ok-Rewind.plan c.as_str.ensures.value c.as_str-in-Ok-Rewind.ensures.value (c.make_told.ensures.performs out_tells out)))

pub returns-in-Ok-Rewind-clause-rewound : goal.returns-in-Ok-Rewind-clause-rewound
returns-in-Ok-Rewind-clause-rewound g c t =
    let fits : FitsSigned w64 c.args.now = search rules in
    let contents = g.F.Tree.contents c.args.tree.now in
    let view = seen_by c.args.own c.args.words.now.target contents in
    let (n, found, is) = task_as view contents c.args.words.now (to_z-of_z w64 c.args.now fits) c.in-Ok-Rewind.field-0-is (c.in-Ok-Rewind.ensures.planned t) in
    let over = over-by c.args.own c.args.words.now c.args.now contents (g.F.Tree.contents c.check.new.tree) n c.in-Ok-Rewind.plan c.check.ensures.reads.same (c.requires.passable t) found is in
    leaves c.make_told.result c.args.words.now c.args.now view (g.F.Tree.contents c.make_told.new.tree) n found (c.make_told.ensures.rewound t view n over)

pub make_told-requires-clause-planned : goal.make_told-requires-clause-planned
make_told-requires-clause-planned g c t =
    let fits : FitsSigned w64 c.args.now = search rules in
    let contents = g.F.Tree.contents c.args.tree.now in
    let view = seen_by c.args.own c.args.words.now.target contents in
    let (n, found, is) = task_as view contents c.args.words.now (to_z-of_z w64 c.args.now fits) c.in-Ok-Rewind.field-0-is (c.in-Ok-Rewind.ensures.planned t) in
    (view, n, over-by c.args.own c.args.words.now c.args.now contents (g.F.Tree.contents c.check.new.tree) n c.in-Ok-Rewind.plan c.check.ensures.reads.same (c.requires.passable t) found is)

pub returns-in-Err-clause-stops : goal.returns-in-Err-clause-stops
returns-in-Err-clause-stops g c told = looks-left g.F.Tree c.args.words.now c.args.now _ _ _ c.check.ensures.reads

pub returns-in-Ok-Tell-clause-stops : goal.returns-in-Ok-Tell-clause-stops
returns-in-Ok-Tell-clause-stops g c told = looks-left g.F.Tree c.args.words.now c.args.now _ _ _ c.check.ensures.reads

pub returns-in-Ok-Rewind-clause-stops : goal.returns-in-Ok-Rewind-clause-stops
returns-in-Ok-Rewind-clause-stops g c told =
    let fits : FitsSigned w64 c.args.now = search rules in
    let contents = g.F.Tree.contents c.args.tree.now in
    let view = seen_by c.args.own c.args.words.now.target contents in
    let (n, found, is) = task_as view contents c.args.words.now (to_z-of_z w64 c.args.now fits) c.in-Ok-Rewind.field-0-is (c.in-Ok-Rewind.ensures.planned told) in
    let over = over-by c.args.own c.args.words.now c.args.now contents (g.F.Tree.contents c.check.new.tree) n c.in-Ok-Rewind.plan c.check.ensures.reads.same (c.requires.passable told) found is in
    makes-left g.F.Tree c.args.words.now c.args.now view c.args.tree.now c.check.new.tree c.check.ensures.reads c.make_told.new.tree
    (wet_as c.args.words.now.dry_run c.in-Ok-Rewind.field-0-is c.in-Ok-Rewind.ensures.wet) n found (c.make_told.ensures.stops told view n over)

pub returns-in-Ok-Rewind-clause-synced : goal.returns-in-Ok-Rewind-clause-synced
returns-in-Ok-Rewind-clause-synced g c told =
    let fits : FitsSigned w64 c.args.now = search rules in
    let contents = g.F.Tree.contents c.args.tree.now in
    let view = seen_by c.args.own c.args.words.now.target contents in
    let (n, found, is) = task_as view contents c.args.words.now (to_z-of_z w64 c.args.now fits) c.in-Ok-Rewind.field-0-is (c.in-Ok-Rewind.ensures.planned told) in
    let over = over-by c.args.own c.args.words.now c.args.now contents (g.F.Tree.contents c.check.new.tree) n c.in-Ok-Rewind.plan c.check.ensures.reads.same (c.requires.passable told) found is in
    durable-by c.make_told.result c.args.words.now c.args.now view (moment_of g.F.Tree c.make_told.new.tree) (c.make_told.ensures.synced told view n over)

pub returns-in-Err-clause-resumable : goal.returns-in-Err-clause-resumable
returns-in-Err-clause-resumable g c told stands = looks-same g.F.Tree c.args.words.now c.args.now _ _ _ c.check.ensures.reads stands

pub returns-in-Ok-Tell-clause-resumable : goal.returns-in-Ok-Tell-clause-resumable
returns-in-Ok-Tell-clause-resumable g c told stands = looks-same g.F.Tree c.args.words.now c.args.now _ _ _ c.check.ensures.reads stands

pub returns-in-Ok-Rewind-clause-resumable : goal.returns-in-Ok-Rewind-clause-resumable
returns-in-Ok-Rewind-clause-resumable g c told stands =
    let fits : FitsSigned w64 c.args.now = search rules in
    let contents = g.F.Tree.contents c.args.tree.now in
    let view = seen_by c.args.own c.args.words.now.target contents in
    let P : Task → Type 0 = IsSaidTask view c.args.words.now.target c.args.words.now.source in
    let (n, found, is) = task_as view contents c.args.words.now (to_z-of_z w64 c.args.now fits) c.in-Ok-Rewind.field-0-is (c.in-Ok-Rewind.ensures.planned told) in
    let over = over-by c.args.own c.args.words.now c.args.now contents (g.F.Tree.contents c.check.new.tree) n c.in-Ok-Rewind.plan c.check.ensures.reads.same (c.requires.passable told) found is in
    makes-resumable g.F.Tree c.args.words.now c.args.now view c.args.tree.now c.check.new.tree c.check.ensures.reads stands c.make_told.new.tree c.in-Ok-Rewind.plan
    (wet_as c.args.words.now.dry_run c.in-Ok-Rewind.field-0-is c.in-Ok-Rewind.ensures.wet) n found is
    (subst P c.in-Ok-Rewind.field-0-is (c.in-Ok-Rewind.ensures.said told)) (c.make_told.ensures.resumable told view n over)
