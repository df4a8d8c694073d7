use Rattle.std.proofs.Common.{refl}
use Rattle.cluster_tree.specs.Frame.{moment_of}
use Rattle.resumed_laws.specs.Resumed.{resumed_changes}
use Rattle.resumed_writes.specs.Again.{resumed_end}
use Rattle.stored_laws.proofs.PlanLemmas.{stored-of_target, stored-unmarked}
use Rattle.cmd_resume.proofs.CarryLemmas.{again_told}
use Rattle.cmd_resume.proofs.CallLemmas.{all-tried, broken-tried}
use Rattle.cmd_resume.proofs.MakeLemmas.{broken_off, on_ok, stands_by}
use Rattle.cmd_resume.proofs.makes.make.Goals as goal

pub returns-in-Ok-clause-carries : goal.returns-in-Ok-clause-carries
returns-in-Ok-clause-carries g c out_tells out =
    again_told c.args.target.now (λ d. resumed_changes d c.args.stored.plan) (λ d. stored-of_target d c.args.target.now c.requires.between.0 c.args.stored c.requires.between.1)
    (g.F.Tree.contents c.args.tree.now) (g.F.Tree.contents c.perform_stored.new.tree) (g.F.Tree.calls c.args.tree.now) (g.F.Tree.calls c.perform_stored.new.tree)
    g.F.Tree.tells c.tell.result (λ t. (c.in-Ok.ensures.tries (c.requires.readable t) t).runs) (λ t. (c.in-Ok.ensures.tries (c.requires.readable t) t).done refl)
    c.tell.ensures.whole c.tell.ensures.part c.tell.ensures.only c.all_done.ensures

pub returns-in-Ok-clause-stops : goal.returns-in-Ok-clause-stops
returns-in-Ok-clause-stops g c told =
    c.in-Ok.ensures.marked told (c.requires.readable told) (c.requires.marked told)
    (stored-unmarked (g.F.Tree.contents c.args.tree.now) c.args.target.now c.requires.between.0 c.args.stored c.requires.between.1)

pub returns-in-Ok-clause-synced : goal.returns-in-Ok-clause-synced
returns-in-Ok-clause-synced g c told =
    on_ok c.tell.result
    (stands_by (moment_of g.F.Tree c.perform_stored.new.tree) (resumed_end (g.F.Tree.contents c.args.tree.now) c.args.stored.plan)
    ((c.in-Ok.ensures.tries (c.requires.readable told) told).runs.after refl)
    (c.in-Ok.ensures.ended told (c.requires.readable told) (c.requires.marked told)
    (stored-unmarked (g.F.Tree.contents c.args.tree.now) c.args.target.now c.requires.between.0 c.args.stored c.requires.between.1)))

pub returns-in-Err-clause-carries : goal.returns-in-Err-clause-carries
returns-in-Err-clause-carries g c out_tells out =
    broken_off c.args.target.now (λ d. resumed_changes d c.args.stored.plan) (λ d. stored-of_target d c.args.target.now c.requires.between.0 c.args.stored c.requires.between.1)
    (g.F.Tree.contents c.args.tree.now) (g.F.Tree.contents c.perform_stored.new.tree) (g.F.Tree.calls c.args.tree.now) (g.F.Tree.calls c.perform_stored.new.tree)
    g.F.Tree.tells c.again_cause.result c.in-Err.fault (λ t. c.in-Err.ensures.tries (c.requires.readable t) t) c.again_cause.ensures.value

pub returns-in-Err-clause-stops : goal.returns-in-Err-clause-stops
returns-in-Err-clause-stops g c told =
    c.in-Err.ensures.marked told (c.requires.readable told) (c.requires.marked told)
    (stored-unmarked (g.F.Tree.contents c.args.tree.now) c.args.target.now c.requires.between.0 c.args.stored c.requires.between.1)

pub returns-in-Ok-clause-tries : goal.returns-in-Ok-clause-tries
returns-in-Ok-clause-tries g c told =
    all-tried (g.F.Tree.contents c.args.tree.now) (g.F.Tree.contents c.perform_stored.new.tree) (resumed_changes (g.F.Tree.contents c.args.tree.now) c.args.stored.plan)
    (g.F.Tree.calls c.args.tree.now) (g.F.Tree.calls c.perform_stored.new.tree) c.tell.result ((c.in-Ok.ensures.tries (c.requires.readable told) told).runs) c.tell.ensures.only

pub returns-in-Err-clause-tries : goal.returns-in-Err-clause-tries
returns-in-Err-clause-tries g c told =
    broken-tried c.args.target.now (g.F.Tree.contents c.args.tree.now) (g.F.Tree.contents c.perform_stored.new.tree) (resumed_changes (g.F.Tree.contents c.args.tree.now) c.args.stored.plan)
    (g.F.Tree.calls c.args.tree.now) (g.F.Tree.calls c.perform_stored.new.tree) c.in-Err.fault c.again_cause.result (c.in-Err.ensures.tries (c.requires.readable told) told) c.again_cause.ensures.value
