use Rattle.std.proofs.Common.{◌≡◌, IfErr, Ok, ap, subst, sym}
use Rattle.rmgr_hooks.specs.Custom.{handed_in}
use Rattle.std.proofs.lemmas.Result.{err_from_is_err_and}
use Rattle.std.specs.Prelude.{is_ok}
use Rattle.cluster_tree.specs.Frame.{moment_of}
use Rattle.cluster_tree.specs.Run.{state_by}
use Rattle.cluster_tree.specs.Stops.{LeavesOnly}
use Rattle.marked_runs.specs.Moments.{StandsMarked}
use Rattle.replay_world.specs.Records.{records_after}
use Rattle.replay_world.specs.World.{world_of}
use Rattle.storage_replay.specs.declared.files.Files.{Files}
use Rattle.replay_core.specs.Replayed.{closed_or, mark_of}
use Rattle.replay_core.specs.Stages.{Stand, records_in, start_in}
use Rattle.replay_core.specs.Stops.{IsMarkedOrDone}
use Rattle.replay_core.specs.Within.{LeavesMark}
use Rattle.replay_core.specs.Went.{RanRecords, Replaying, WentOn}
use Rattle.replay_core.proofs.JoinLemmas.{ran-records, still-stand, went-broken}
use Rattle.replay_core.proofs.WithinLemmas.{mark-on}
use Rattle.replay_core.proofs.StopLemmas.{records-left, records-stand, records-then, replayed-meant}
use Rattle.storage_replay.specs.Sparing.{piece_of}
use Rattle.file_edits.proofs.SparingLemmas.{spared-on}
use Rattle.file_effects.specs.Own.{is_replayed}
use Rattle.std.proofs.Common.{◌∙◌}
use Rattle.replay_core.proofs.SparingLemmas.{block-replayed}
use Rattle.replay_core.proofs.replaying.replay_begun.Goals as goal

pub returns-in_err-count-clause-went : goal.returns-in_err-count-clause-went
returns-in_err-count-clause-went g c told =
    let ran = ran-records g.F.Tree c.args.world.files.root c.args.tree.now c.replay_log.new.tree c.replay_log.ensures.frame (c.replay_log.ensures.own told) in
    went-broken c.args.world.files.root (state_by g.F.Tree.contents g.F.Tree.calls c.args.tree.now) (state_by g.F.Tree.contents g.F.Tree.calls c.replay_log.new.tree) c.from_residual.result _
    (err_from_is_err_and c.from_residual.result c.from_residual.ensures.1).1 (Replaying ran)

pub finish-requires-clause-stand : goal.finish-requires-clause-stand
finish-requires-clause-stand g c told =
    let old = state_by g.F.Tree.contents g.F.Tree.calls c.args.tree.now in
    let new = state_by g.F.Tree.contents g.F.Tree.calls c.replay_log.new.tree in
    let ran = ran-records g.F.Tree c.args.world.files.root c.args.tree.now c.replay_log.new.tree c.replay_log.ensures.frame (c.replay_log.ensures.own told) in
    subst (λ p. Stand (g.F.Tree.contents c.replay_log.new.tree) p) (sym (ap (λ (f : Files). f.root) c.replay_log.ensures.files))
    (still-stand c.args.world.files.root old new ran (c.requires.stand told))

pub returns-clause-went : goal.returns-clause-went
returns-clause-went g c told =
    let old = state_by g.F.Tree.contents g.F.Tree.calls c.args.tree.now in
    let late = state_by g.F.Tree.contents g.F.Tree.calls c.replay_log.new.tree in
    let new = state_by g.F.Tree.contents g.F.Tree.calls c.finish.new.tree in
    let ran = ran-records g.F.Tree c.args.world.files.root c.args.tree.now c.replay_log.new.tree c.replay_log.ensures.frame (c.replay_log.ensures.own told) in
    let same = ap (λ (f : Files). f.root) c.replay_log.ensures.files in
    subst (λ p. WentOn p old new (is_ok c.finish.result)) same (c.finish.ensures.went told old (subst (λ p. RanRecords p old late) (sym same) ran))

pub returns-in_err-count-clause-stands : goal.returns-in_err-count-clause-stands
returns-in_err-count-clause-stands g c told =
    let old = state_by g.F.Tree.contents g.F.Tree.calls c.args.tree.now in
    let new = state_by g.F.Tree.contents g.F.Tree.calls c.replay_log.new.tree in
    let ran = ran-records g.F.Tree c.args.world.files.root c.args.tree.now c.replay_log.new.tree c.replay_log.ensures.frame (c.replay_log.ensures.own told) in
    mark-on c.args.world.files.root (g.F.Tree.contents c.replay_log.new.tree) c.from_residual.result (still-stand c.args.world.files.root old new ran (c.requires.stand told)).mark

pub returns-clause-stands : goal.returns-clause-stands
returns-clause-stands g c told =
    subst (λ p. IfErr c.finish.result (LeavesMark p (g.F.Tree.contents c.finish.new.tree))) (ap (λ (f : Files). f.root) c.replay_log.ensures.files) (c.finish.ensures.stands told)

pub returns-in_err-count-clause-stops : goal.returns-in_err-count-clause-stops
returns-in_err-count-clause-stops g c told marked =
    records-left g.F.Tree c.args.world.files.root c.args.tree.now c.replay_log.new.tree c.replay_log.ensures.frame (c.replay_log.ensures.own told) marked _

pub returns-clause-stops : goal.returns-clause-stops
returns-clause-stops g c told marked =
    let root = c.args.world.files.root in
    let old = c.args.tree.now in
    let late = c.replay_log.new.tree in
    let new = c.finish.new.tree in
    let same = ap (λ (f : Files). f.root) c.replay_log.ensures.files in
    let w = world_of (g.F.Tree.contents old) c.args.world in
    let v = world_of (g.F.Tree.contents late) c.replay_log.new.world in
    let count = c.in_ok-count.count in
    let all = c.in_ok-count.ensures.all told in
    let each : records_after (handed_in g.M.Manager c.args.custom) root c.args.checked.control.relseg (records_in c.args.checked (g.F.Tree.contents old)) w ≡ Ok v
    = subst (λ n. records_after (handed_in g.M.Manager c.args.custom) root n (records_in c.args.checked (g.F.Tree.contents old)) w ≡ Ok v) c.requires.per_file all.0 in
    let stands = records-stand g.F.Tree root old late c.replay_log.ensures.frame (c.replay_log.ensures.own told) marked in
    let left = c.finish.ensures.stops told (subst (λ p. StandsMarked (mark_of p) (moment_of g.F.Tree late)) (sym same) stands) in
    records-then g.F.Tree root old late c.replay_log.ensures.frame (c.replay_log.ensures.own told) marked _ (closed_or root c.timeline-tli.result count.records count.end.0 v) new c.finish.ensures.frame
    (replayed-meant _ root (start_in c.args.checked (g.F.Tree.contents old)) w v c.timeline-tli.result count.records count.end.0 each c.timeline-tli.ensures all.1 all.2)
    (subst (λ p. LeavesOnly (IsMarkedOrDone p (closed_or p c.timeline-tli.result count.records count.end.0 v)) (g.F.Tree.stops late) (g.F.Tree.stops new)) same left)

pub returns-in_err-count-clause-spares : goal.returns-in_err-count-clause-spares
returns-in_err-count-clause-spares g c told name is free =
    c.replay_log.ensures.spares told name is free

pub returns-clause-spares : goal.returns-clause-spares
returns-clause-spares g c told name is free =
    let same = ap (λ (f : Files). f.root) c.replay_log.ensures.files in
    spared-on g.F.Tree (piece_of c.args.world.files.root c.args.world.files.per_file name) _ _ _ (c.replay_log.ensures.spares told name is free)
    (c.finish.ensures.spares told (piece_of c.args.world.files.root c.args.world.files.per_file name) (ap (λ p. is_replayed p (piece_of c.args.world.files.root c.args.world.files.per_file name).path) same ∙ block-replayed c.args.world.files.root c.args.world.files.per_file name c.requires.fit.some is))
