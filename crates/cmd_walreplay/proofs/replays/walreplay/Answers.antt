use Rattle.std.proofs.Common.{Err, ap, ◌∙◌}
use Rattle.cluster_tree.specs.Run.{Moment}
use Rattle.rmgr_hooks.specs.Custom.{handed_in}
use Rattle.run_acts.proofs.UnseenSteps.{unseen_told}
use Rattle.cmd_walreplay.proofs.CarryLemmas.{leaves_replayed, looks_by, replay_faulted, replay_told}
use Rattle.cmd_walreplay.proofs.StayLemmas.{stays_refused, stays_told}
use Rattle.cmd_walreplay.proofs.replays.walreplay.Goals as goal

pub returns-in-Ok-clause-carries : goal.returns-in-Ok-clause-carries
returns-in-Ok-clause-carries g c err_tells err =
    replay_told (handed_in g.M.Manager c.args.custom) c.args.words.now (g.F.Tree.contents c.args.tree.now) (g.F.Tree.contents c.replay_with.new.tree) (g.F.Tree.calls c.args.tree.now) (g.F.Tree.calls c.replay_with.new.tree)
    g.F.Tree.tells c.in-Ok.done c.tell.result c.in-Ok.ensures.done c.in-Ok.ensures.within c.tell.ensures.whole c.tell.ensures.part c.tell.ensures.only (c.as_str.ensures.value ∙ c.replayed_line.ensures)

pub returns-in-Ok-clause-replayed : goal.returns-in-Ok-clause-replayed
returns-in-Ok-clause-replayed g c told =
    leaves_replayed (handed_in g.M.Manager c.args.custom) _ _ g.O.Sink.tells (g.F.Tree.contents c.args.tree.now) (g.F.Tree.contents c.replay_with.new.tree) c.args.words.now c.in-Ok.done c.tell.result
    (c.in-Ok.ensures.done told) c.tell.ensures.whole (c.as_str.ensures.value ∙ c.replayed_line.ensures)

pub returns-in-Err-clause-carries : goal.returns-in-Err-clause-carries
returns-in-Err-clause-carries g c err_tells err =
    unseen_told c.replay_cause.ensures.value
    (replay_faulted (handed_in g.M.Manager c.args.custom) c.args.words.now (g.F.Tree.contents c.args.tree.now) (g.F.Tree.contents c.replay_with.new.tree) (g.F.Tree.calls c.args.tree.now) (g.F.Tree.calls c.replay_with.new.tree)
    g.F.Tree.tells c.in-Err.fault (record {
      looks = looks_by c.in-Err.fault c.replay_cause.result c.replay_cause.ensures.value c.replay_cause.ensures.look;
      meant = c.in-Err.ensures.refused;
      within = c.in-Err.ensures.within;
      checked = λ t f is. ap (λ (m : Moment). m.state) (c.in-Err.ensures.checked t f is);
      unwritten = λ t f is written. c.in-Err.ensures.unwritten t f is (ap Err written);
    }))

pub returns-in-Ok-clause-stays : goal.returns-in-Ok-clause-stays
returns-in-Ok-clause-stays g c told =
    stays_told (handed_in g.M.Manager c.args.custom) c.args.words.now (g.F.Tree.contents c.args.tree.now) (g.F.Tree.contents c.replay_with.new.tree) (c.in-Ok.ensures.log told) c.tell.result c.tell.ensures.only

pub returns-in-Err-clause-stays : goal.returns-in-Err-clause-stays
returns-in-Err-clause-stays g c told =
    stays_refused (handed_in g.M.Manager c.args.custom) c.args.words.now (g.F.Tree.contents c.args.tree.now) (g.F.Tree.contents c.replay_with.new.tree) (c.in-Err.ensures.log told) c.in-Err.fault c.replay_cause.result
    c.replay_cause.ensures.value (c.in-Err.ensures.stands told)
