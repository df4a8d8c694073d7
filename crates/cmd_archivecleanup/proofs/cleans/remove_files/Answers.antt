use Rattle.std.proofs.Common.{inr, refl}
use Rattle.cluster_tree.specs.Frame.{moment_of}
use Rattle.reset_cleanup.proofs.StopLemmas.{reads-leave}
use Rattle.run_acts.proofs.AnswerSteps.{carries_look}
use Rattle.run_acts.proofs.UnseenSteps.{unseen_acts, unseen_still}
use Rattle.cmd_archivecleanup.specs.Archivecleanup.{removals}
use Rattle.cmd_archivecleanup.specs.Left.{IsLeftByCleanup}
use Rattle.cmd_archivecleanup.proofs.FormLemmas.{answer-form, answer-looks}
use Rattle.cmd_archivecleanup.proofs.LeftLemmas.{removals-left, untouched-left}
use Rattle.cmd_archivecleanup.proofs.cleans.remove_files.Goals as goal

pub returns-in-Ok-clause-carries : goal.returns-in-Ok-clause-carries
returns-in-Ok-clause-carries g c o out =
    unseen_acts (λ x. removals x c.in-Ok.queue.items) c.planned.ensures.reads.same c.planned.ensures.reads.uncalled (λ told. told) c.in-Ok.ensures.exact c.in-Ok.ensures.form
    (c.remove_all.ensures.performs o out)

pub returns-in-Err-clause-carries : goal.returns-in-Err-clause-carries
returns-in-Err-clause-carries g c o out =
    let contents = g.F.Tree.contents c.args.tree.now in
    unseen_still c.planned.ensures.reads.same c.planned.ensures.reads.uncalled
    (λ d j. carries_look c.in-Err.e (answer-form contents c.args.words.now) (answer-looks contents c.args.words.now) (inr (c.in-Err.e, c.in-Err.ensures.look, refl)) c.in-Err.ensures.look c.in-Err.ensures.exact refl refl)

pub returns-in-Ok-clause-stops : goal.returns-in-Ok-clause-stops
returns-in-Ok-clause-stops g c told =
    removals-left g.F.Tree c.args.words.now c.in-Ok.queue.items c.args.tree.now c.planned.new.tree c.remove_all.new.tree _ c.planned.ensures.reads (c.in-Ok.ensures.leaving told) c.remove_all.ensures.frame (c.remove_all.ensures.runs told)

pub returns-in-Err-clause-stops : goal.returns-in-Err-clause-stops
returns-in-Err-clause-stops g c told =
    let first = moment_of g.F.Tree c.args.tree.now in
    reads-leave g.F.Tree (IsLeftByCleanup c.args.words.now first) _ _ c.planned.ensures.reads (untouched-left c.args.words.now first)
