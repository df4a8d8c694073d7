use Rattle.std.proofs.Common.{◌≡◌, ◌-◌, ◌^◌, IsTrue, None}
use Rattle.cluster_tree.specs.Frame.{Reads}
use Rattle.wal_records.specs.Cursor.{Knows, to_come}
use Rattle.log_walk.specs.Steps.{Touches}
use Rattle.log_walk.proofs.touch.touch_all.Given as goal

abbrev pub invariant-records : goal.invariant-records
invariant-records g l =
    let contents = g.F.Tree.contents l.fn.tree in
    record {
      opened : l.cursor.ended ≡ None;
      log : l.cursor.log ≡ l.fn.cursor.log;
      reads : Reads g.F.Tree l.fn.tree l.tree;
      knows : IsTrue g.F.Tree.tells → Knows l.cursor (g.F.Tree.contents l.tree);
      touches : IsTrue g.F.Tree.tells → Touches l.end.0 (to_come l.fn.cursor contents) (to_come l.cursor contents) l.fn.touched l.touched;
    }

abbrev pub decreases-records : goal.decreases-records
decreases-records g l = 2 ^ 64 - l.cursor.place
