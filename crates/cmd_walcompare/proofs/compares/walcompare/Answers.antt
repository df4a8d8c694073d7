use Rattle.std.proofs.Common.{[], ◌∷◌, inl, inr, refl, sym, ap, ◌∙◌}
use Rattle.acts.specs.Acts.{Print}
use Rattle.run_acts.specs.declared.cause.Cause.TheVariants as cause
use Rattle.run_acts.proofs.AnswerSteps.{carries_acts, carries_look, carries_refused, last_exact, last_print}
use Rattle.cmd_walcompare.specs.Walcompare.{no_difference, verdict_answer}
use Rattle.cmd_walcompare.proofs.FormLemmas.{answer-form, answer-looks}
use Rattle.cmd_walcompare.proofs.compares.walcompare.Goals as goal

pub returns-in-Ok-Same-clause-carries : goal.returns-in-Ok-Same-clause-carries
returns-in-Ok-Same-clause-carries g c err_tells err =
    carries_acts (Print no_difference ∷ []) (λ t. sym (ap verdict_answer c.in-Ok-Same.field-0-is) ∙ c.in-Ok-Same.ensures.exact t) (inl refl)
    (last_exact c.tell.result c.tell.ensures.only) c.verdict_of.ensures.reads.same c.verdict_of.ensures.reads.uncalled
    (last_print c.tell.result c.tell.ensures.whole c.tell.ensures.part c.tell.ensures.only c.no_difference.ensures)

pub returns-in-Ok-Differs-clause-carries : goal.returns-in-Ok-Differs-clause-carries
returns-in-Ok-Differs-clause-carries g c err_tells err =
    let why = cause.Differs c.in-Ok-Differs.path c.in-Ok-Differs.block in
    carries_refused why refl (λ t. sym (ap verdict_answer c.in-Ok-Differs.field-0-is) ∙ c.in-Ok-Differs.ensures.exact t)
    (inr (why, inr (inr refl), refl)) c.verdict_of.ensures.reads.same c.verdict_of.ensures.reads.uncalled

pub returns-in-Err-clause-carries : goal.returns-in-Err-clause-carries
returns-in-Err-clause-carries g c err_tells err =
    let contents = g.F.Tree.contents c.args.tree.now in
    carries_look c.in-Err.e (answer-form contents c.args.words.now) (answer-looks contents c.args.words.now)
    (inr (c.in-Err.e, c.in-Err.ensures.look, refl)) c.in-Err.ensures.look c.in-Err.ensures.exact
    c.verdict_of.ensures.reads.same c.verdict_of.ensures.reads.uncalled
