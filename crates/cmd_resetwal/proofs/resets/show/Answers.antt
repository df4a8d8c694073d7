use Rattle.std.proofs.Common.{FitsSigned, inr, refl, rules, w64, [], ◌∷◌}
use Rattle.std.proofs.lemmas.Int.{to_z-of_z}
use Rattle.acts.specs.Acts.{Print}
use Rattle.run_acts.proofs.AnswerSteps.{carries_acts, carries_look, last_exact, last_print}
use Rattle.cmd_resetwal.proofs.CarryLemmas.{carried_at}
use Rattle.cmd_resetwal.proofs.FormLemmas.{answer-form, answer-looks}
use Rattle.cmd_resetwal.proofs.resets.show.Goals as goal

pub returns-in-Ok-clause-carries : goal.returns-in-Ok-clause-carries
returns-in-Ok-clause-carries g c err_tells err =
    let fits : FitsSigned w64 c.args.now = search rules in
    carried_at (g.F.Tree.contents c.args.tree.now) c.args.words.now (to_z-of_z w64 c.args.now fits)
    (carries_acts (Print c.in-Ok.text ∷ []) c.in-Ok.ensures.exact c.in-Ok.ensures.form
    (last_exact c.tell.result c.tell.ensures.only) c.dry_text.ensures.reads.same c.dry_text.ensures.reads.uncalled
    (last_print c.tell.result c.tell.ensures.whole c.tell.ensures.part c.tell.ensures.only c.as_str.ensures.value))

pub returns-in-Err-clause-carries : goal.returns-in-Err-clause-carries
returns-in-Err-clause-carries g c err_tells err =
    let fits : FitsSigned w64 c.args.now = search rules in
    carried_at (g.F.Tree.contents c.args.tree.now) c.args.words.now (to_z-of_z w64 c.args.now fits)
    (carries_look c.in-Err.e (answer-form (g.F.Tree.contents c.args.tree.now) c.args.words.now _) (answer-looks (g.F.Tree.contents c.args.tree.now) c.args.words.now _)
    (inr (c.in-Err.e, c.in-Err.ensures.look, refl)) c.in-Err.ensures.look c.in-Err.ensures.exact
    c.dry_text.ensures.reads.same c.dry_text.ensures.reads.uncalled)
