use Rattle.std.proofs.Common.{◌≡◌, [], false, ◌-◌, ◌^◌, ◌≤◌, None, IsTrue}
use Rattle.acts.specs.Acts.{seen, sunk}
use Rattle.acts.specs.Texts.{prints}
use Rattle.acts.proofs.PrintLemmas.{Gathers}
use Rattle.cluster_tree.specs.Frame.{Reads}
use Rattle.wal_records.specs.Cursor.{Knows}
use Rattle.rmgr_hooks.specs.Custom.{handed_in}
use Rattle.waldump_core.specs.Steps.{left}
use Rattle.waldump_core.specs.Texts.{Extends}
use Rattle.waldump_core.specs.Walk.{nothing_shown}
use Rattle.waldump_core.proofs.walk.walk.Given as goal

abbrev pub invariant-records : goal.invariant-records
invariant-records g l =
    let contents = g.F.Tree.contents l.fn.tree in
    let calls = g.F.Tree.calls l.fn.tree in
    let sel = l.asked.sel in
    let custom = handed_in g.M.Manager l.asked.custom in
    record {
      opened : l.cursor.ended ≡ None;
      log : l.cursor.log ≡ l.fn.cursor.log;
      few : l.progress.shown ≤ l.cursor.place;
      reads : Reads g.F.Tree l.fn.tree l.tree;
      knows : IsTrue g.F.Tree.tells → Knows l.cursor (g.F.Tree.contents l.tree);
      answer : IsTrue g.F.Tree.tells → (left custom sel l.progress l.cursor contents).answer ≡ (left custom sel nothing_shown l.fn.cursor contents).answer;
      gathers : IsTrue g.F.Tree.tells → Gathers g.O.Sink.tells false (prints (left custom sel nothing_shown l.fn.cursor contents).lines)
          (seen contents calls (sunk (g.O.Sink.written l.fn.out) (g.O.Sink.failed_writes l.fn.out)) (sunk [] 0))
          l.lines (prints (left custom sel l.progress l.cursor contents).lines)
          (seen contents calls (sunk (g.O.Sink.written l.out) (g.O.Sink.failed_writes l.out)) (sunk [] 0));
      extends : IsTrue g.O.Sink.tells → Extends (g.O.Sink.written l.fn.out) (g.O.Sink.written l.out);
      quiet : IsTrue sel.quiet → (l.out ≡ l.fn.out) × (l.lines ≡ []);
      later : g.O.Sink.failed_writes l.fn.out ≤ g.O.Sink.failed_writes l.out;
    }

abbrev pub decreases-records : goal.decreases-records
decreases-records g l = 2 ^ 64 - l.cursor.place
