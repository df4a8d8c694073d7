use Rattle.std.proofs.Common.{◌≡◌, ◌++◌, ◌-◌, ◌^◌, None, map, IsTrue}
use Rattle.cluster_tree.specs.Frame.{Reads}
use Rattle.wal_records.specs.Reading.{LogRecord}
use Rattle.wal_records.specs.Cursor.{to_come}
use Rattle.log_tests.proofs.callers.xids_of.Given as goal

abbrev pub invariant-records : goal.invariant-records
invariant-records g l =
    let contents = g.F.Tree.contents l.fn.tree in
    record {
      opened : l.cursor.ended ≡ None;
      reads : Reads g.F.Tree l.fn.tree l.tree;
      xids : IsTrue g.F.Tree.tells → l.xids.items ++ map (λ (r : LogRecord). r.header.xid) (to_come l.cursor contents).records ≡ l.fn.xids.items ++ map (λ (r : LogRecord). r.header.xid) (to_come l.fn.cursor contents).records;
      place : IsTrue g.F.Tree.tells → (to_come l.cursor contents).place ≡ (to_come l.fn.cursor contents).place;
      why : IsTrue g.F.Tree.tells → (to_come l.cursor contents).why ≡ (to_come l.fn.cursor contents).why;
    }

abbrev pub decreases-records : goal.decreases-records
decreases-records g l = 2 ^ 64 - l.cursor.place
