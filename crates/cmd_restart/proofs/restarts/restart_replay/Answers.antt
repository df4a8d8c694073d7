use Rattle.std.proofs.Common.{Err, ap}
use Rattle.cluster_tree.specs.Run.{Moment}
use Rattle.rmgr_hooks.specs.Custom.{handed_in}
use Rattle.run_acts.proofs.UnseenSteps.{unseen_told}
use Rattle.cmd_restart.proofs.CarryLemmas.{looks_by, restart_faulted, restart_told}
use Rattle.cmd_restart.proofs.StayLemmas.{never_changed, refused_by, stays_refused, unwritten_by}
use Rattle.cmd_restart.proofs.restarts.restart_replay.Goals as goal

pub returns-in-Ok-clause-carries : goal.returns-in-Ok-clause-carries
returns-in-Ok-clause-carries g c err_tells err =
    restart_told (handed_in g.M.Manager c.args.custom) c.args.words.now (g.F.Tree.contents c.args.tree.now) (g.F.Tree.contents c.restart.new.tree) (g.F.Tree.calls c.args.tree.now) (g.F.Tree.calls c.restart.new.tree)
    g.F.Tree.tells c.in-Ok.done c.tell_restarted.result c.in-Ok.ensures.done c.in-Ok.ensures.within c.tell_restarted.ensures.whole c.tell_restarted.ensures.part c.tell_restarted.ensures.only

pub returns-in-Err-clause-carries : goal.returns-in-Err-clause-carries
returns-in-Err-clause-carries g c err_tells err =
    unseen_told c.restart_cause.ensures.value
    (restart_faulted (handed_in g.M.Manager c.args.custom) c.args.words.now (g.F.Tree.contents c.args.tree.now) (g.F.Tree.contents c.restart.new.tree) (g.F.Tree.calls c.args.tree.now) (g.F.Tree.calls c.restart.new.tree)
    g.F.Tree.tells c.in-Err.fault (record {
      looks = looks_by c.in-Err.fault c.restart_cause.result c.restart_cause.ensures.value c.restart_cause.ensures.look;
      meant = c.in-Err.ensures.refused;
      within = c.in-Err.ensures.within;
      checked = λ t f why. ap (λ (m : Moment). m.state) (c.in-Err.ensures.checked t f why);
      unwritten = λ t f why written. c.in-Err.ensures.unwritten t f why (ap Err written);
      walked = λ written. c.in-Err.ensures.walk_reads (ap Err written);
    }))

pub returns-in-Err-clause-refused : goal.returns-in-Err-clause-refused
returns-in-Err-clause-refused g c t =
    refused_by (handed_in g.M.Manager c.args.custom) c.args.words.now (g.F.Tree.contents c.args.tree.now) c.in-Err.fault c.restart_cause.result c.restart_cause.ensures.value (c.in-Err.ensures.refused t)

pub returns-in-Err-clause-stays : goal.returns-in-Err-clause-stays
returns-in-Err-clause-stays g c t =
    stays_refused (handed_in g.M.Manager c.args.custom) c.args.words.now (g.F.Tree.contents c.args.tree.now) (g.F.Tree.contents c.restart.new.tree) (c.in-Err.ensures.log t)
    c.in-Err.fault c.restart_cause.result c.restart_cause.ensures.value (c.in-Err.ensures.refused t) (c.in-Err.ensures.stands t)
    (λ f why. ((ap (λ (m : Moment). m.state.contents) (c.in-Err.ensures.checked t f why)), unwritten_by c.in-Err.fault c.restart_cause.ensures.write (c.in-Err.ensures.unwritten t f why) c.in-Err.ensures.walk_reads))

pub returns-in-Err-clause-changed : goal.returns-in-Err-clause-changed
returns-in-Err-clause-changed g c t p is = never_changed c.in-Err.fault p (c.restart_cause.ensures.changed p (cc is)) (c.in-Err.ensures.changed t p)
