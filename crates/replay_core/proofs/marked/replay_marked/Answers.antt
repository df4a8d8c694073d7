use Rattle.std.proofs.Common.{◌∙◌, ◌<◌, ap, refl, subst, sym, Err}
use Rattle.std.proofs.lemmas.Result.{err_from_is_err_and}
use Rattle.cluster_tree.specs.Frame.{moment_of}
use Rattle.cluster_tree.proofs.RunLemmas.{came_on}
use Rattle.file_edits.proofs.OwnLemmas.{own-on}
use Rattle.file_edits.proofs.SparingLemmas.{spared-on}
use Rattle.replay_control.specs.Following.{control_left}
use Rattle.replay_start.specs.Checked.{Start}
use Rattle.replay_world.specs.World.{world_of}
use Rattle.rmgr_hooks.specs.Custom.{handed_in}
use Rattle.storage_replay.specs.Sparing.{piece_of}
use Rattle.storage_replay.specs.declared.files.Files.{Files}
use Rattle.replay_core.specs.Sparing.{LeavesUntouched}
use Rattle.replay_core.specs.Stages.{EndsStand, start_in}
use Rattle.replay_core.specs.Under.{is_changed_by_replay, left_under_or, replayed_under}
use Rattle.replay_core.specs.Went.{Answers}
use Rattle.replay_core.proofs.JoinLemmas.{ends-stand, ran-records}
use Rattle.replay_core.proofs.SparingLemmas.{still-there, spared-stays}
use Rattle.replay_core.proofs.StartedLemmas.{from-start}
use Rattle.replay_core.proofs.UnderLemmas.{answers-broken, beside-left, block-spared, files-own, records-own, records-spare, same-beside, under-broken, under-meant, world-meant}
use Rattle.replay_core.proofs.marked.replay_marked.Goals as goal

pub returns-in_err-paths-clause-spares : goal.returns-in_err-paths-clause-spares
returns-in_err-paths-clause-spares g c told start was name page is free stands = still-there c.args.root.now start.control.relseg name page (moment_of g.F.Tree c.args.tree.now) stands

pub returns-in_err-world-clause-spares : goal.returns-in_err-world-clause-spares
returns-in_err-world-clause-spares g c told start was name page is free stands = still-there c.args.root.now start.control.relseg name page (moment_of g.F.Tree c.args.tree.now) stands

pub returns-in_err-room-clause-spares : goal.returns-in_err-room-clause-spares
returns-in_err-room-clause-spares g c told start was name page is free stands = still-there c.args.root.now start.control.relseg name page (moment_of g.F.Tree c.args.tree.now) stands

pub replay_log-requires-clause-log : goal.replay_log-requires-clause-log
replay_log-requires-clause-log g c told =
    let (start, was) = c.requires.checked told in
    (from-start _ c.args.root.now c.args.checked start (g.F.Tree.contents c.args.tree.now) c.requires.folder was).log

pub settle-requires-clause-stand : goal.settle-requires-clause-stand
settle-requires-clause-stand g c told =
    let (start, was) = c.requires.checked told in
    let from = from-start _ c.args.root.now c.args.checked start (g.F.Tree.contents c.args.tree.now) c.requires.folder was in
    let ran = ran-records g.F.Tree c.in_ok-world.world.files.root c.args.tree.now c.replay_log.new.tree c.replay_log.ensures.frame (c.replay_log.ensures.own told) in
    subst (EndsStand (g.F.Tree.contents c.replay_log.new.tree)) (sym (ap (λ (f : Files). f.root) c.replay_log.ensures.files)) (ends-stand c.in_ok-world.world.files.root _ _ ran (subst (EndsStand (g.F.Tree.contents c.args.tree.now)) (sym c.in_ok-world.ensures.root) from.stand))

pub returns-in_err-count-clause-exact : goal.returns-in_err-count-clause-exact
returns-in_err-count-clause-exact g c told start was =
    let t = g.F.Tree in
    let root = c.args.root.now in
    let old = c.args.tree.now in
    let late = c.replay_log.new.tree in
    let custom = handed_in g.M.Manager c.args.custom in
    let first = t.contents old in
    let from = from-start custom root c.args.checked start first c.requires.folder was in
    let own = start_in c.args.checked first in
    let world = c.in_ok-world.world in
    let p = err_from_is_err_and c.from_residual-in_err-count.result c.from_residual-in_err-count.ensures.1 in
    let cause = under-broken custom root world.files.root world.files.per_file own first (world_of first world) c.in_ok-world.ensures.root c.in_ok-world.ensures.per_file
    (world-meant own first (world_of first world) refl c.in_ok-world.ensures.control c.in_ok-world.ensures.skipped) c.in_err-count.field-0.0 (c.in_err-count.ensures.all told) in
    subst (λ (s : Start). Answers (replayed_under custom root s first) (t.contents late) c.from_residual-in_err-count.result) from.start
    (answers-broken _ _ c.from_residual-in_err-count.result c.in_err-count.field-0.0 (p.1 ∙ ap Err p.2) cause)

pub returns-in_err-count-clause-own : goal.returns-in_err-count-clause-own
returns-in_err-count-clause-own g c told =
    let t = g.F.Tree in
    let root = c.args.root.now in
    let old = c.args.tree.now in
    let late = c.replay_log.new.tree in
    let records = records-own t root c.in_ok-world.world.files.root c.in_ok-world.ensures.root old late (c.replay_log.ensures.own told) in
    records

pub returns-in_err-count-clause-elsewhere : goal.returns-in_err-count-clause-elsewhere
returns-in_err-count-clause-elsewhere g c told =
    let t = g.F.Tree in
    let root = c.args.root.now in
    let old = c.args.tree.now in
    let late = c.replay_log.new.tree in
    let records = records-own t root c.in_ok-world.world.files.root c.in_ok-world.ensures.root old late (c.replay_log.ensures.own told) in
    same-beside t root old late c.replay_log.ensures.frame records

pub returns-in_err-count-clause-stops : goal.returns-in_err-count-clause-stops
returns-in_err-count-clause-stops g c told =
    let t = g.F.Tree in
    let root = c.args.root.now in
    let old = c.args.tree.now in
    let late = c.replay_log.new.tree in
    let records = records-own t root c.in_ok-world.world.files.root c.in_ok-world.ensures.root old late (c.replay_log.ensures.own told) in
    beside-left t root old late c.replay_log.ensures.frame records

pub returns-in_err-count-clause-spares : goal.returns-in_err-count-clause-spares
returns-in_err-count-clause-spares g c told start was =
    let t = g.F.Tree in
    let root = c.args.root.now in
    let old = c.args.tree.now in
    let late = c.replay_log.new.tree in
    let from = from-start (handed_in g.M.Manager c.args.custom) root c.args.checked start (t.contents old) c.requires.folder was in
    let per = c.args.checked.control.relseg in
    subst (λ (s : Start). LeavesUntouched (handed_in g.M.Manager c.args.custom) root s (moment_of t old) (moment_of t late)) from.start (λ name page is free.
    spared-stays t root per name page old late c.replay_log.ensures.frame
    (records-spare t root c.in_ok-world.world.files.root c.in_ok-world.ensures.root old late c.in_ok-world.world.files.per_file per name c.in_ok-world.ensures.per_file (c.replay_log.ensures.spares told name is free)))

pub returns-clause-exact : goal.returns-clause-exact
returns-clause-exact g c told start was =
    let t = g.F.Tree in
    let root = c.args.root.now in
    let old = c.args.tree.now in
    let late = c.replay_log.new.tree in
    let custom = handed_in g.M.Manager c.args.custom in
    let first = t.contents old in
    let from = from-start custom root c.args.checked start first c.requires.folder was in
    let own = start_in c.args.checked first in
    let world = c.in_ok-world.world in
    let v = world_of (t.contents late) c.replay_log.new.world in
    let count = c.in_ok-count.count in
    let all = c.in_ok-count.ensures.all told in
    let same = ap (λ (f : Files). f.root) c.replay_log.ensures.files ∙ c.in_ok-world.ensures.root in
    let meant = ap (λ p. left_under_or p c.timeline-tli.result count.records count.end.0 v) same
    ∙ under-meant custom root world.files.root world.files.per_file own first (world_of first world) c.in_ok-world.ensures.root c.in_ok-world.ensures.per_file
    (world-meant own first (world_of first world) refl c.in_ok-world.ensures.control c.in_ok-world.ensures.skipped) v c.timeline-tli.result count.records count.end.0 all.0 c.timeline-tli.ensures all.1 all.2 in
    subst (λ (s : Start). Answers (replayed_under custom root s first) (t.contents c.settle.new.tree) c.settle.result) from.start
    (subst (λ m. Answers m (t.contents c.settle.new.tree) c.settle.result) meant (c.settle.ensures.exact told))

pub returns-clause-own : goal.returns-clause-own
returns-clause-own g c told =
    let t = g.F.Tree in
    let root = c.args.root.now in
    let old = c.args.tree.now in
    let late = c.replay_log.new.tree in
    let new = c.settle.new.tree in
    let world = c.replay_log.new.world in
    let same = ap (λ (f : Files). f.root) c.replay_log.ensures.files ∙ c.in_ok-world.ensures.root in
    let left = control_left c.timeline-tli.result c.in_ok-count.count.end.0 world.control in
    let records = records-own t root c.in_ok-world.world.files.root c.in_ok-world.ensures.root old late (c.replay_log.ensures.own told) in
    let all = own-on t.calls (is_changed_by_replay root) old late new records (files-own t root world.files.root same late new left _ (c.settle.ensures.ran told)) in
    all

pub returns-clause-elsewhere : goal.returns-clause-elsewhere
returns-clause-elsewhere g c told =
    let t = g.F.Tree in
    let root = c.args.root.now in
    let old = c.args.tree.now in
    let late = c.replay_log.new.tree in
    let new = c.settle.new.tree in
    let world = c.replay_log.new.world in
    let same = ap (λ (f : Files). f.root) c.replay_log.ensures.files ∙ c.in_ok-world.ensures.root in
    let left = control_left c.timeline-tli.result c.in_ok-count.count.end.0 world.control in
    let records = records-own t root c.in_ok-world.world.files.root c.in_ok-world.ensures.root old late (c.replay_log.ensures.own told) in
    let all = own-on t.calls (is_changed_by_replay root) old late new records (files-own t root world.files.root same late new left _ (c.settle.ensures.ran told)) in
    same-beside t root old new (came_on t old late new c.replay_log.ensures.frame c.settle.ensures.frame) all

pub returns-clause-stops : goal.returns-clause-stops
returns-clause-stops g c told =
    let t = g.F.Tree in
    let root = c.args.root.now in
    let old = c.args.tree.now in
    let late = c.replay_log.new.tree in
    let new = c.settle.new.tree in
    let world = c.replay_log.new.world in
    let same = ap (λ (f : Files). f.root) c.replay_log.ensures.files ∙ c.in_ok-world.ensures.root in
    let left = control_left c.timeline-tli.result c.in_ok-count.count.end.0 world.control in
    let records = records-own t root c.in_ok-world.world.files.root c.in_ok-world.ensures.root old late (c.replay_log.ensures.own told) in
    let all = own-on t.calls (is_changed_by_replay root) old late new records (files-own t root world.files.root same late new left _ (c.settle.ensures.ran told)) in
    beside-left t root old new (came_on t old late new c.replay_log.ensures.frame c.settle.ensures.frame) all

pub returns-clause-spares : goal.returns-clause-spares
returns-clause-spares g c told start was =
    let t = g.F.Tree in
    let root = c.args.root.now in
    let old = c.args.tree.now in
    let late = c.replay_log.new.tree in
    let new = c.settle.new.tree in
    let world = c.replay_log.new.world in
    let same = ap (λ (f : Files). f.root) c.replay_log.ensures.files ∙ c.in_ok-world.ensures.root in
    let left = control_left c.timeline-tli.result c.in_ok-count.count.end.0 world.control in
    let from = from-start (handed_in g.M.Manager c.args.custom) root c.args.checked start (t.contents old) c.requires.folder was in
    let per = c.args.checked.control.relseg in
    let some : 0 < per = subst (λ n. 0 < n) c.in_ok-world.ensures.per_file c.in_ok-world.ensures.fit.some in
    subst (λ (s : Start). LeavesUntouched (handed_in g.M.Manager c.args.custom) root s (moment_of t old) (moment_of t new)) from.start (λ name page is free.
    spared-stays t root per name page old new (came_on t old late new c.replay_log.ensures.frame c.settle.ensures.frame)
    (spared-on t (piece_of root per name) old late new
    (records-spare t root c.in_ok-world.world.files.root c.in_ok-world.ensures.root old late c.in_ok-world.world.files.per_file per name c.in_ok-world.ensures.per_file (c.replay_log.ensures.spares told name is free))
    (block-spared t root world.files.root same late new left _ (c.settle.ensures.ran told) per name some is c.settle.ensures.frame)))
