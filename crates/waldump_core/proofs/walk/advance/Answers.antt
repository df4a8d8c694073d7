use Rattle.std.proofs.Common.{◌≡◌, Some, rules}
use Rattle.waldump_core.proofs.StepLemmas.{step_record, turn_ends}
use Rattle.waldump_core.proofs.walk.advance.Goals as goal

-- what ends the dump at the record
pub returns-in-Err-clause-step : goal.returns-in-Err-clause-step
returns-in-Err-clause-step g c = λ told.
    let contents = g.F.Tree.contents c.args.tree.now in
    let is : c.next_unchanged.new.self.current ≡ Some c.unwrap-rec.result.now = search rules in
    let step = step_record c.args.cursor.now c.next_unchanged.new.self _ contents c.unwrap-rec.result.now c.in-Record.is is (c.in_ok-next_unchanged.ensures.step told (c.requires.knows told) c.requires.opened) in
    turn_ends _ c.args.asked.now.sel c.args.progress c.args.cursor.now c.next_unchanged.new.self contents c.args.asked.now.size c.unwrap-rec.result.now c.in-Err.e
    c.requires.size step c.in-Err.ensures.turn
