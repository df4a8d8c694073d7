use Rattle.std.proofs.Common.{◌≡◌, Some, arith, rules}
use Rattle.wal_records.specs.Cursor.{to_come}
use Rattle.log_walk.proofs.TouchLemmas.{added_next, end_next, end_step, needed_refused, past_touched, record_moves, record_step}
use Rattle.log_walk.proofs.touch.touch_next.Goals as goal

pub returns-in-End-clause-step : goal.returns-in-End-clause-step
returns-in-End-clause-step g c = λ told.
    let contents = g.F.Tree.contents c.args.tree.now in
    let ends = end_step c.args.cursor.now c.next_unchanged.new.self _ contents c.in-End.place c.in-End.why c.in-End.is (c.in_ok-next_unchanged.ensures.step told (c.requires.knows told) c.requires.opened) in
    end_next c.args.end.0 c.in-End.place.0 c.in-End.why (to_come c.args.cursor.now contents) (to_come c.next_unchanged.new.self contents) c.args.touched.now c.at_end.result ends c.at_end.ensures

pub returns-then-end-start-clause-step : goal.returns-then-end-start-clause-step
returns-then-end-start-clause-step g c = λ told.
    let contents = g.F.Tree.contents c.args.tree.now in
    let there : c.next_unchanged.new.self.current ≡ Some c.unwrap-rec.result.now = search rules in
    let step = record_step c.args.cursor.now c.next_unchanged.new.self _ contents c.unwrap-rec.result.now c.in-Record.is there (c.in_ok-next_unchanged.ensures.step told (c.requires.knows told) c.requires.opened) in
    past_touched c.args.end.0 c.unwrap-rec.result.now (to_come c.args.cursor.now contents) (to_come c.next_unchanged.new.self contents) c.args.touched.now step (omega arith)

pub returns-in-Ok-clause-step : goal.returns-in-Ok-clause-step
returns-in-Ok-clause-step g c = λ told.
    let contents = g.F.Tree.contents c.args.tree.now in
    let there : c.next_unchanged.new.self.current ≡ Some c.unwrap-rec.result.now = search rules in
    let step = record_step c.args.cursor.now c.next_unchanged.new.self _ contents c.unwrap-rec.result.now c.in-Record.is there (c.in_ok-next_unchanged.ensures.step told (c.requires.knows told) c.requires.opened) in
    let goes = record_moves c.args.cursor.now c.next_unchanged.new.self _ c.unwrap-rec.result.now c.in-Record.is there c.in_ok-next_unchanged.ensures.moves in
    added_next c.args.cursor.now c.next_unchanged.new.self contents c.args.end.0 c.unwrap-rec.result.now c.args.touched.now c.add_needed.new.touched c.behind.result c.in_ok-next_unchanged.ensures.log step goes
    (omega arith) c.in-Ok.ensures.refused c.in-Ok.ensures.added c.behind.ensures

pub returns-in-Err-clause-step : goal.returns-in-Err-clause-step
returns-in-Err-clause-step g c = λ told.
    let contents = g.F.Tree.contents c.args.tree.now in
    let there : c.next_unchanged.new.self.current ≡ Some c.unwrap-rec.result.now = search rules in
    let step = record_step c.args.cursor.now c.next_unchanged.new.self _ contents c.unwrap-rec.result.now c.in-Record.is there (c.in_ok-next_unchanged.ensures.step told (c.requires.knows told) c.requires.opened) in
    needed_refused c.args.end.0 c.unwrap-rec.result.now (to_come c.args.cursor.now contents) (to_come c.next_unchanged.new.self contents) c.in-Err.e step (omega arith) c.in-Err.ensures.refused
