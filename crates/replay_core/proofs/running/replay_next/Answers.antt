use Rattle.std.proofs.Common.{◌≡◌, ◌∙◌, ◌⊎◌, Some, Ok, Err, ap, rules, subst, sym}
use Rattle.rmgr_hooks.specs.Custom.{handed_in}
use Rattle.cluster_tree.specs.Contents.{Contents}
use Rattle.wal_records.specs.Cursor.{to_come}
use Rattle.wal_pages.specs.declared.log_path.LogPath.{LogPath}
use Rattle.wal_records.specs.Log.{Log}
use Rattle.block_replay.specs.Faults.{IsFreeFault}
use Rattle.replay_start.proofs.ScanLemmas.{end_step, record_step}
use Rattle.replay_world.specs.Records.{record_after}
use Rattle.replay_world.specs.World.{world_of}
use Rattle.replay_core.specs.Steps.{AreReplayed, BreaksOff, Replays}
use Rattle.replay_core.proofs.LogStays.{elsewhere, knows_stays, to_come_stays}
use Rattle.replay_core.proofs.RunLemmas.{none_left, one_more, one_refused}
use Rattle.storage_replay.specs.Sparing.{piece_of}
use Rattle.file_edits.proofs.SparingLemmas.{spared-on, spared-read}
use Rattle.replay_core.proofs.SparingLemmas.{untouched-record, untouched-rest}
use Rattle.replay_world.specs.Touched.{touched_by}
use Rattle.std.proofs.Common.{false}
use Rattle.replay_core.proofs.running.replay_next.Goals as goal

pub returns-in-End-clause-step : goal.returns-in-End-clause-step
returns-in-End-clause-step g c = λ told.
    let contents = g.F.Tree.contents c.args.tree.now in
    let files = c.args.world.now.files in
    let old = (to_come c.args.cursor.now contents).records in
    let ended = end_step c.args.cursor.now c.next_unchanged.new.self _ contents c.in-End.field-0 c.in-End.field-1 c.in-End.is (c.in_ok-next_unchanged.ensures.step told (c.requires.knows told) c.requires.opened) in
    subst (λ (x : Contents). AreReplayed (handed_in g.M.Manager c.args.custom) files.root files.per_file old (world_of contents c.args.world.now) (world_of x c.args.world.now) c.args.count.now c.args.count.now) (sym c.in_ok-next_unchanged.ensures.reads.same)
    (none_left _ files.root files.per_file old (world_of contents c.args.world.now) c.args.count.now ended)

pub returns-in-Err-clause-step : goal.returns-in-Err-clause-step
returns-in-Err-clause-step g c = λ told.
    let contents = g.F.Tree.contents c.args.tree.now in
    let files = c.args.world.now.files in
    let rec = c.unwrap-rec.result.now in
    let there : c.next_unchanged.new.self.current ≡ Some rec = search rules in
    let step = record_step c.args.cursor.now c.next_unchanged.new.self _ contents rec c.in-Record.is there (c.in_ok-next_unchanged.ensures.step told (c.requires.knows told) c.requires.opened) in
    let refused = subst (λ (x : Contents). IsFreeFault c.in-Err.fault ⊎ (record_after (handed_in g.M.Manager c.args.custom) files.root files.per_file rec c.judge_again.new.parts (world_of x c.args.world.now) ≡ Err c.in-Err.fault)) c.in_ok-next_unchanged.ensures.reads.same (c.in-Err.ensures.exact told) in
    subst (BreaksOff (handed_in g.M.Manager c.args.custom) files.root files.per_file (to_come c.args.cursor.now contents).records (world_of contents c.args.world.now)) (sym c.of_record.ensures)
    (one_refused _ files.root files.per_file rec c.judge_again.new.parts (to_come c.args.cursor.now contents).records (to_come c.next_unchanged.new.self contents).records (world_of contents c.args.world.now) c.in-Err.fault step c.in_ok-judge_again.ensures.parts refused)

pub returns-in-Err-clause-knows : goal.returns-in-Err-clause-knows
returns-in-Err-clause-knows g c = λ told.
    let root = c.args.world.now.files.root in
    knows_stays root c.next_unchanged.new.self (g.F.Tree.contents c.next_unchanged.new.tree) (g.F.Tree.contents c.replay_record.new.tree) (ap (λ (l : LogPath). l.folder) c.in_ok-next_unchanged.ensures.log ∙ c.requires.folder)
    (elsewhere g.F.Tree root c.next_unchanged.new.tree c.replay_record.new.tree c.replay_record.ensures.frame (c.replay_record.ensures.own told))
    (c.in_ok-next_unchanged.ensures.knows told (c.requires.knows told))

pub returns-clause-step : goal.returns-clause-step
returns-clause-step g c = λ told.
    let contents = g.F.Tree.contents c.args.tree.now in
    let files = c.args.world.now.files in
    let rec = c.unwrap-rec.result.now in
    let cursor = c.next_unchanged.new.self in
    let new = g.F.Tree.contents c.replay_record.new.tree in
    let there : c.next_unchanged.new.self.current ≡ Some rec = search rules in
    let step = record_step c.args.cursor.now cursor _ contents rec c.in-Record.is there (c.in_ok-next_unchanged.ensures.step told (c.requires.knows told) c.requires.opened) in
    let left = subst (λ (x : Contents). record_after (handed_in g.M.Manager c.args.custom) files.root files.per_file rec c.judge_again.new.parts (world_of x c.args.world.now) ≡ Ok (world_of new c.replay_record.new.world)) c.in_ok-next_unchanged.ensures.reads.same (c.in-Ok.ensures.exact told) in
    let stays : to_come cursor contents ≡ to_come cursor new =
    ap (to_come cursor) (sym c.in_ok-next_unchanged.ensures.reads.same)
    ∙ to_come_stays files.root cursor (g.F.Tree.contents c.next_unchanged.new.tree) new (ap (λ (l : LogPath). l.folder) c.in_ok-next_unchanged.ensures.log ∙ c.requires.folder)
    (elsewhere g.F.Tree files.root c.next_unchanged.new.tree c.replay_record.new.tree c.replay_record.ensures.frame (c.replay_record.ensures.own told)) in
    let old = (to_come c.args.cursor.now contents).records in
    subst (λ (l : Log). Replays (handed_in g.M.Manager c.args.custom) files.root files.per_file old l.records (world_of contents c.args.world.now) (world_of new c.replay_record.new.world) c.args.count.now c.count_on.result) stays
    (one_more _ files.root files.per_file rec c.judge_again.new.parts old (to_come cursor contents).records (world_of contents c.args.world.now) (world_of new c.replay_record.new.world) c.args.count.now c.count_on.result
    step (c.requires.taken told) c.in_ok-judge_again.ensures.parts left c.count_on.ensures)

pub returns-clause-knows : goal.returns-clause-knows
returns-clause-knows g c = λ told.
    let root = c.args.world.now.files.root in
    knows_stays root c.next_unchanged.new.self (g.F.Tree.contents c.next_unchanged.new.tree) (g.F.Tree.contents c.replay_record.new.tree) (ap (λ (l : LogPath). l.folder) c.in_ok-next_unchanged.ensures.log ∙ c.requires.folder)
    (elsewhere g.F.Tree root c.next_unchanged.new.tree c.replay_record.new.tree c.replay_record.ensures.frame (c.replay_record.ensures.own told))
    (c.in_ok-next_unchanged.ensures.knows told (c.requires.knows told))

pub returns-in-Err-clause-spares : goal.returns-in-Err-clause-spares
returns-in-Err-clause-spares g c told name is free =
    let contents = g.F.Tree.contents c.args.tree.now in
    let rec = c.unwrap-rec.result.now in
    let there : c.next_unchanged.new.self.current ≡ Some rec = search rules in
    let step = record_step c.args.cursor.now c.next_unchanged.new.self _ contents rec c.in-Record.is there (c.in_ok-next_unchanged.ensures.step told (c.requires.knows told) c.requires.opened) in
    spared-on g.F.Tree (piece_of c.args.world.now.files.root c.args.world.now.files.per_file name) _ _ _ (spared-read g.F.Tree (piece_of c.args.world.now.files.root c.args.world.now.files.per_file name) _ _ c.in_ok-next_unchanged.ensures.reads)
    (c.replay_record.ensures.spares told name is (untouched-record (handed_in g.M.Manager c.args.custom) rec (to_come c.args.cursor.now contents).records (to_come c.next_unchanged.new.self contents).records name step free c.judge_again.new.parts c.in_ok-judge_again.ensures.parts))

pub returns-clause-spares : goal.returns-clause-spares
returns-clause-spares g c told name is free =
    let contents = g.F.Tree.contents c.args.tree.now in
    let rec = c.unwrap-rec.result.now in
    let there : c.next_unchanged.new.self.current ≡ Some rec = search rules in
    let step = record_step c.args.cursor.now c.next_unchanged.new.self _ contents rec c.in-Record.is there (c.in_ok-next_unchanged.ensures.step told (c.requires.knows told) c.requires.opened) in
    spared-on g.F.Tree (piece_of c.args.world.now.files.root c.args.world.now.files.per_file name) _ _ _ (spared-read g.F.Tree (piece_of c.args.world.now.files.root c.args.world.now.files.per_file name) _ _ c.in_ok-next_unchanged.ensures.reads)
    (c.replay_record.ensures.spares told name is (untouched-record (handed_in g.M.Manager c.args.custom) rec (to_come c.args.cursor.now contents).records (to_come c.next_unchanged.new.self contents).records name step free c.judge_again.new.parts c.in_ok-judge_again.ensures.parts))

pub returns-clause-fewer : goal.returns-clause-fewer
returns-clause-fewer g c told more name free =
    let contents = g.F.Tree.contents c.args.tree.now in
    let rec = c.unwrap-rec.result.now in
    let there : c.next_unchanged.new.self.current ≡ Some rec = search rules in
    let step = record_step c.args.cursor.now c.next_unchanged.new.self _ contents rec c.in-Record.is there (c.in_ok-next_unchanged.ensures.step told (c.requires.knows told) c.requires.opened) in
    let files = c.args.world.now.files in
    let cursor = c.next_unchanged.new.self in
    let new = g.F.Tree.contents c.replay_record.new.tree in
    let stays : to_come cursor contents ≡ to_come cursor new =
    ap (to_come cursor) (sym c.in_ok-next_unchanged.ensures.reads.same)
    ∙ to_come_stays files.root cursor (g.F.Tree.contents c.next_unchanged.new.tree) new (ap (λ (l : LogPath). l.folder) c.in_ok-next_unchanged.ensures.log ∙ c.requires.folder)
    (elsewhere g.F.Tree files.root c.next_unchanged.new.tree c.replay_record.new.tree c.replay_record.ensures.frame (c.replay_record.ensures.own told)) in
    subst (λ (l : Log). touched_by (handed_in g.M.Manager c.args.custom) l.records name ≡ false) stays
    (untouched-rest (handed_in g.M.Manager c.args.custom) rec (to_come c.args.cursor.now contents).records (to_come cursor contents).records name step free)
