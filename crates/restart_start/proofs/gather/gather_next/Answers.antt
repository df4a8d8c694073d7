use Rattle.std.proofs.Common.{◌≡◌, Some, rules}
use Rattle.rmgr_hooks.specs.Custom.{handed_in}
use Rattle.replay_start.proofs.ScanLemmas.{record_step}
use Rattle.restart_start.proofs.GatherLemmas.{gathered, passed}
use Rattle.restart_start.proofs.gather.gather_next.Goals as goal

pub returns-clause-step : goal.returns-clause-step
returns-clause-step g c = λ told.
    let contents = g.F.Tree.contents c.args.tree.now in
    let rec = c.unwrap-rec.result.now in
    let there : c.next_unchanged.new.self.current ≡ Some rec = search rules in
    let step = record_step c.args.cursor.now c.next_unchanged.new.self _ contents rec c.in-Record.is there (c.in_ok-next_unchanged.ensures.step told (c.requires.knows told) c.requires.opened) in (
      rec,
      step,
      passed (handed_in g.M.Manager c.args.custom) rec c.judge.new.parts _ _ step c.in_ok-judge.ensures.exact,
      gathered (handed_in g.M.Manager c.args.custom) rec c.judge.new.parts c.args.firsts.now c.add_record.new.self c.in_ok-judge.ensures.left c.in_ok-add_record.ensures.ok,
    )
