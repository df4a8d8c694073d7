use Rattle.std.proofs.Common.{ap, inr, refl, subst}
use Rattle.std.proofs.lemmas.Result.{err_from_is_err_and}
use Rattle.cluster_tree.specs.Causes.{Meets}
use Rattle.acts.specs.Acts.{Performs, seen, sunk}
use Rattle.acts.specs.Texts.{prints}
use Rattle.std.specs.Prelude.{[], false}
use Rattle.wal_records.specs.Cursor.{CursorView}
use Rattle.waldump_core.specs.Dump.{Dump}
use Rattle.waldump_core.specs.Texts.{IsFree, ending_of}
use Rattle.waldump_core.proofs.SinkLemmas.{paused_before}
use Rattle.waldump_core.proofs.StepLemmas.{left_from}
use Rattle.waldump_core.proofs.walk.dump_at.Goals as goal

pub returns-in_err-cursor-clause-shown : goal.returns-in_err-cursor-clause-shown
returns-in_err-cursor-clause-shown g c = λ told.
    let ended = err_from_is_err_and c.from_residual.result c.from_residual.ensures.1 in
    paused_before _ c.from_residual.result ended.0 ended.1 (inr ended.2) refl refl

pub returns-clause-answer : goal.returns-clause-answer
returns-clause-answer g c = λ told.
    let contents = g.F.Tree.contents c.args.tree.now in
    let whole = left_from _ c.args.sel.now c.in_ok-cursor.cursor contents c.args.log c.args.place (ap (λ (v : CursorView). v.log) c.in_ok-cursor.ensures.ok) (c.in_ok-cursor.ensures.starts contents) in
    subst (λ (d : Dump). Meets IsFree d.answer c.walk.result) whole (c.walk.ensures.answer told)

pub returns-clause-shown : goal.returns-clause-shown
returns-clause-shown g c = λ told.
    let contents = g.F.Tree.contents c.args.tree.now in
    let calls = g.F.Tree.calls c.args.tree.now in
    let whole = left_from _ c.args.sel.now c.in_ok-cursor.cursor contents c.args.log c.args.place (ap (λ (v : CursorView). v.log) c.in_ok-cursor.ensures.ok) (c.in_ok-cursor.ensures.starts contents) in
    subst (λ (d : Dump). Performs g.O.Sink.tells false (ending_of c.walk.result) (prints d.lines)
    (seen contents calls (sunk (g.O.Sink.written c.args.out.now) (g.O.Sink.failed_writes c.args.out.now)) (sunk [] 0))
    (seen contents calls (sunk (g.O.Sink.written c.walk.new.out) (g.O.Sink.failed_writes c.walk.new.out)) (sunk [] 0))) whole (c.walk.ensures.shown told)
