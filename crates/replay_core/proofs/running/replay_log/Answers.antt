use Rattle.std.proofs.Common.{ap, ◌∙◌}
use Rattle.rmgr_hooks.specs.Custom.{handed_in}
use Rattle.wal_records.specs.Log.{Log}
use Rattle.replay_world.specs.Touched.{touched_by}
use Rattle.replay_core.proofs.running.replay_log.Goals as goal

pub returns-in_err-replay_all-clause-spares : goal.returns-in_err-replay_all-clause-spares
returns-in_err-replay_all-clause-spares g c told name is free =
    c.replay_all.ensures.spares told name is (ap (λ (l : Log). touched_by (handed_in g.M.Manager c.args.custom) l.records name) (c.go_back.ensures.starts (g.F.Tree.contents c.args.tree.now)) ∙ free)

pub returns-clause-spares : goal.returns-clause-spares
returns-clause-spares g c told name is free =
    c.replay_all.ensures.spares told name is (ap (λ (l : Log). touched_by (handed_in g.M.Manager c.args.custom) l.records name) (c.go_back.ensures.starts (g.F.Tree.contents c.args.tree.now)) ∙ free)
