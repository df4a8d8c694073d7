use Rattle.std.proofs.Common.{inr, refl}
use Rattle.cluster_tree.specs.Frame.{moment_of}
use Rattle.reset_cleanup.proofs.StopLemmas.{reads-leave}
use Rattle.run_acts.proofs.AnswerSteps.{carries_acts, carries_look, last_exact}
use Rattle.cmd_archivecleanup.specs.Archivecleanup.{printed}
use Rattle.cmd_archivecleanup.specs.Left.{IsLeftByCleanup}
use Rattle.cmd_archivecleanup.proofs.FormLemmas.{answer-form, answer-looks}
use Rattle.cmd_archivecleanup.proofs.LeftLemmas.{untouched-left}
use Rattle.cmd_archivecleanup.proofs.cleans.name_files.Goals as goal

pub returns-in-Ok-clause-carries : goal.returns-in-Ok-clause-carries
returns-in-Ok-clause-carries g c err_tells err =
    carries_acts (printed c.in-Ok.text) c.in-Ok.ensures.exact c.in-Ok.ensures.form
    (last_exact c.print_text.result c.print_text.ensures.only) c.named.ensures.reads.same c.named.ensures.reads.uncalled
    (c.print_text.ensures.performs err_tells err _ _)

pub returns-in-Err-clause-carries : goal.returns-in-Err-clause-carries
returns-in-Err-clause-carries g c err_tells err =
    let contents = g.F.Tree.contents c.args.tree.now in
    carries_look c.in-Err.e (answer-form contents c.args.words.now) (answer-looks contents c.args.words.now) (inr (c.in-Err.e, c.in-Err.ensures.look, refl)) c.in-Err.ensures.look c.in-Err.ensures.exact
    c.named.ensures.reads.same c.named.ensures.reads.uncalled

pub returns-in-Ok-clause-stops : goal.returns-in-Ok-clause-stops
returns-in-Ok-clause-stops g c told =
    let first = moment_of g.F.Tree c.args.tree.now in
    reads-leave g.F.Tree (IsLeftByCleanup c.args.words.now first) _ _ c.named.ensures.reads (untouched-left c.args.words.now first)

pub returns-in-Err-clause-stops : goal.returns-in-Err-clause-stops
returns-in-Err-clause-stops g c told =
    let first = moment_of g.F.Tree c.args.tree.now in
    reads-leave g.F.Tree (IsLeftByCleanup c.args.words.now first) _ _ c.named.ensures.reads (untouched-left c.args.words.now first)
