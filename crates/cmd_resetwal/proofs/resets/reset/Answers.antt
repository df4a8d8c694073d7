use Rattle.std.proofs.Common.{Err, FitsSigned, ap, refl, rules, w64}
use Rattle.std.proofs.lemmas.Int.{to_z-of_z}
use Rattle.run_acts.proofs.UnseenSteps.{unseen_told}
use Rattle.cmd_resetwal.proofs.CarryLemmas.{left_at, reset_faulted, reset_told, unseen_at}
use Rattle.cmd_resetwal.proofs.resets.reset.Goals as goal

pub returns-in-Ok-clause-carries : goal.returns-in-Ok-clause-carries
returns-in-Ok-clause-carries g c err_tells err =
    let fits : FitsSigned w64 c.args.now = search rules in
    let (made, of_names, same, meant) = c.in-Ok.ensures.form in
    unseen_at (g.F.Tree.contents c.args.tree.now) c.args.words.now (to_z-of_z w64 c.args.now fits)
    (reset_told g.F.Tree.tells c.args.words.now _ (g.F.Tree.contents c.args.tree.now) (g.F.Tree.contents c.reset_log.new.tree) (g.F.Tree.calls c.args.tree.now) (g.F.Tree.calls c.reset_log.new.tree)
    made c.tell.result c.requires.wet of_names meant (λ t. c.in-Ok.ensures.writes t made (meant t)) c.tell.ensures.whole c.tell.ensures.part c.tell.ensures.only refl)

pub returns-in-Err-clause-carries : goal.returns-in-Err-clause-carries
returns-in-Err-clause-carries g c err_tells err =
    let fits : FitsSigned w64 c.args.now = search rules in
    unseen_told c.reset_cause.ensures.value
    (unseen_at (g.F.Tree.contents c.args.tree.now) c.args.words.now (to_z-of_z w64 c.args.now fits)
    (reset_faulted g.F.Tree.tells c.args.words.now _ (g.F.Tree.contents c.args.tree.now) (g.F.Tree.contents c.reset_log.new.tree) (g.F.Tree.calls c.args.tree.now) (g.F.Tree.calls c.reset_log.new.tree)
    c.in-Err.fault c.requires.wet (record {
      passes = c.in-Err.ensures.exact;
      never = λ t p is. c.in-Err.ensures.changed t p (ap Err is);
      still = λ other none. ((c.in-Err.ensures.unchanged other none).same, (c.in-Err.ensures.unchanged other none).uncalled);
      form = c.in-Err.ensures.form;
      ran = λ made t meant. c.in-Err.ensures.writes t made meant;
    })))

pub returns-in-Ok-clause-stops : goal.returns-in-Ok-clause-stops
returns-in-Ok-clause-stops g c told =
    let fits : FitsSigned w64 c.args.now = search rules in
    left_at g.F.Tree c.args.words.now (to_z-of_z w64 c.args.now fits) _ _ (c.reset_log.ensures.stops told)

pub returns-in-Err-clause-stops : goal.returns-in-Err-clause-stops
returns-in-Err-clause-stops g c told =
    let fits : FitsSigned w64 c.args.now = search rules in
    left_at g.F.Tree c.args.words.now (to_z-of_z w64 c.args.now fits) _ _ (c.reset_log.ensures.stops told)
