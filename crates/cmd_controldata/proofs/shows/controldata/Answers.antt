use Rattle.std.proofs.Common.{inl, inr, refl, [], ◌∷◌}
use Rattle.acts.specs.Acts.{Print}
use Rattle.run_acts.proofs.AnswerSteps.{carries_acts, carries_look, last_exact, last_print}
use Rattle.clusters.specs.RootControl.{control_at}
use Rattle.cmd_controldata.proofs.FormLemmas.{answer-form, answer-looks}
use Rattle.cmd_controldata.proofs.shows.controldata.Goals as goal

pub returns-in-Ok-clause-carries : goal.returns-in-Ok-clause-carries
returns-in-Ok-clause-carries g c err_tells err =
    carries_acts (Print c.in-Ok.text ∷ []) c.in-Ok.ensures.exact (inl (c.in-Ok.text, refl))
    (last_exact c.tell.result c.tell.ensures.only) c.text_of.ensures.reads.same c.text_of.ensures.reads.uncalled
    (last_print c.tell.result c.tell.ensures.whole c.tell.ensures.part c.tell.ensures.only c.as_str.ensures.value)

pub returns-in-Err-clause-carries : goal.returns-in-Err-clause-carries
returns-in-Err-clause-carries g c err_tells err =
    let read = control_at (g.F.Tree.contents c.args.tree.now) c.args.words.now.root in
    carries_look c.in-Err.e (answer-form read) (answer-looks read) (inr (c.in-Err.e, c.in-Err.ensures.look, refl)) c.in-Err.ensures.look c.in-Err.ensures.exact
    c.text_of.ensures.reads.same c.text_of.ensures.reads.uncalled
