use Rattle.std.proofs.Common.{inl, inr, refl, subst, sym, ◌∙◌}
use Rattle.cluster_tree.specs.Frame.{moment_of}
use Rattle.resumed_laws.specs.Resumed.{resumed_changes}
use Rattle.run_acts.specs.declared.cause.Cause.TheVariants as cause
use Rattle.cmd_rewind.specs.Tasks.{reported}
use Rattle.cmd_rewind.specs.declared.lines.Lines.TheVariants as lines
use Rattle.run_acts.proofs.AnswerSteps.{carries_acts, carries_fault, last_exact}
use Rattle.run_acts.proofs.UnseenSteps.{told_wet, unseen_by, unseen_still}
use Rattle.cmd_resume.specs.Resume.{IsResume}
use Rattle.cmd_resume.proofs.CallLemmas.{none-tried}
use Rattle.cmd_resume.proofs.FoundCallLemmas.{dry-tried}
use Rattle.cmd_resume.proofs.RestLemmas.{unseen_looked}
use Rattle.cmd_resume.proofs.ResumeLemmas.{again-form, again-looks, dry-answer, lines_as, still-again, wet-answer, whole-form}
use Rattle.cmd_resume.proofs.resumes.resume_stored.Goals as goal

pub returns-in-Err-clause-carries : goal.returns-in-Err-clause-carries
returns-in-Err-clause-carries g c out_tells out =
    let words = c.args.words.now in
    let contents = g.F.Tree.contents c.args.tree.now in
    unseen_still refl refl (λ d j. carries_fault (again-form words contents words.source c.args.stored c.requires.between) (again-looks words contents c.args.stored) (inr refl) refl refl)

pub returns-then-words-clause-carries : goal.returns-then-words-clause-carries
returns-then-words-clause-carries g c out_tells out =
    let words = c.args.words.now in
    let contents = g.F.Tree.contents c.args.tree.now in
    let known = dry-answer words contents c.args.stored c.if-words.true c.in-Ok.ensures.first c.in-Ok.ensures.second in
    unseen_still refl refl
    (λ d j. carries_acts (reported (lines.Rewind c.in-Ok.first c.in-Ok.second)) (λ t. known)
    (subst (IsResume words) (sym known) (again-form words contents words.source c.args.stored c.requires.between))
    (last_exact c.report.result c.report.ensures.only) refl refl (c.report.ensures.performs out_tells out d j))

pub returns-else-words-clause-carries : goal.returns-else-words-clause-carries
returns-else-words-clause-carries g c out_tells out =
    let words = c.args.words.now in
    let contents = g.F.Tree.contents c.args.tree.now in
    unseen_by (told_wet words.dry_run c.if-words.false) (λ t. inl t)
    (unseen_looked (λ t. t) (wet-answer words contents c.args.stored c.if-words.false) (whole-form words c.args.stored.told c.if-words.false)
    (lines_as (c.as_str.ensures.value ∙ c.in-Ok.ensures.first) (c.as_str-else-words.ensures.value ∙ c.in-Ok.ensures.second) (c.make_told.ensures.carries out_tells out)))

pub returns-in-Err-clause-again : goal.returns-in-Err-clause-again
returns-in-Err-clause-again g c told found e may = still-again found e c.args.stored.plan (moment_of g.F.Tree c.args.tree.now) may

pub returns-then-words-clause-again : goal.returns-then-words-clause-again
returns-then-words-clause-again g c told found e may = still-again found e c.args.stored.plan (moment_of g.F.Tree c.args.tree.now) may

pub returns-in-Err-clause-tries : goal.returns-in-Err-clause-tries
returns-in-Err-clause-tries g c told wet =
    let contents = g.F.Tree.contents c.args.tree.now in
    none-tried contents (resumed_changes contents c.args.stored.plan) (g.F.Tree.calls c.args.tree.now) cause.OutOfMemory (λ way is. cc is)

pub returns-then-words-clause-tries : goal.returns-then-words-clause-tries
returns-then-words-clause-tries g c told wet = dry-tried c.args.words.now c.if-words.true wet
