use Rattle.std.proofs.Common.{◌≡◌, ◌∙◌, Result, Err, Some, ap, inr, rules, subst, sym}
use Rattle.rmgr_hooks.specs.Custom.{handed_in}
use Rattle.std.proofs.lemmas.Result.{err_from_is_err_and}
use Rattle.wal_records.specs.Cursor.{to_come}
use Rattle.replay_start.specs.Steps.{Scans, ScansNext}
use Rattle.replay_start.specs.declared.fault.ReplayFault.{ReplayFault}
use Rattle.replay_start.specs.declared.scan.Turn.{Turn}
use Rattle.replay_start.proofs.ScanLemmas.{end_step, none_left, one_more, one_refused, record_moves, record_step}
use Rattle.replay_start.proofs.scan.scan_next.Goals as goal

pub returns-in-End-clause-step : goal.returns-in-End-clause-step
returns-in-End-clause-step g c = λ told.
    let contents = g.F.Tree.contents c.args.tree.now in
    none_left _ c.args.label (to_come c.args.cursor.now contents).records c.args.seen.now
    (end_step c.args.cursor.now c.next_unchanged.new.self _ contents c.in-End.field-0 c.in-End.field-1 c.in-End.is (c.in_ok-next_unchanged.ensures.step told (c.requires.knows told) c.requires.opened))

pub returns-clause-step : goal.returns-clause-step
returns-clause-step g c = λ told.
    let contents = g.F.Tree.contents c.args.tree.now in
    let there : c.next_unchanged.new.self.current ≡ Some c.unwrap-rec.result.now = search rules in
    let step = record_step c.args.cursor.now c.next_unchanged.new.self _ contents c.unwrap-rec.result.now c.in-Record.is there (c.in_ok-next_unchanged.ensures.step told (c.requires.knows told) c.requires.opened) in
    subst (Scans (handed_in g.M.Manager c.args.custom) c.args.label (to_come c.args.cursor.now contents).records (to_come c.next_unchanged.new.self contents).records c.args.seen.now) (sym c.seen_with.ensures)
    (one_more _ c.args.label c.unwrap-rec.result.now c.judge.new.parts _ _ c.args.seen.now step c.in_ok-judge.ensures.exact)

pub returns-clause-moves : goal.returns-clause-moves
returns-clause-moves g c =
    let there : c.next_unchanged.new.self.current ≡ Some c.unwrap-rec.result.now = search rules in
    record_moves c.args.cursor.now c.next_unchanged.new.self _ c.unwrap-rec.result.now c.in-Record.is there c.in_ok-next_unchanged.ensures.moves

pub returns-in_err-judge-clause-step : goal.returns-in_err-judge-clause-step
returns-in_err-judge-clause-step g c = λ told.
    let contents = g.F.Tree.contents c.args.tree.now in
    let there : c.next_unchanged.new.self.current ≡ Some c.unwrap-rec.result.now = search rules in
    let step = record_step c.args.cursor.now c.next_unchanged.new.self _ contents c.unwrap-rec.result.now c.in-Record.is there (c.in_ok-next_unchanged.ensures.step told (c.requires.knows told) c.requires.opened) in
    let ended = err_from_is_err_and c.from_residual-in_err-judge.result c.from_residual-in_err-judge.ensures.1 in
    let is = ended.1 ∙ ap (λ (x : ReplayFault). Err x) ended.2 in
    subst (λ (k : Result Turn ReplayFault). ScansNext (handed_in g.M.Manager c.args.custom) c.args.label (to_come c.args.cursor.now contents).records (to_come c.next_unchanged.new.self contents).records c.args.seen.now c.args.seen.now k) (sym is)
    (inr (one_refused _ c.unwrap-rec.result.now _ _ c.in_err-judge.field-0.0 step c.in_err-judge.ensures.exact))
