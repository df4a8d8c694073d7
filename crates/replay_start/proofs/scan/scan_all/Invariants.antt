use Rattle.std.proofs.Common.{◌≡◌, ◌-◌, ◌^◌, IsTrue, None}
use Rattle.rmgr_hooks.specs.Custom.{handed_in}
use Rattle.cluster_tree.specs.Frame.{Reads}
use Rattle.wal_records.specs.Cursor.{Knows, to_come}
use Rattle.replay_start.specs.Steps.{Scans}
use Rattle.replay_start.proofs.scan.scan_all.Given as goal

abbrev pub invariant-records : goal.invariant-records
invariant-records g l =
    let contents = g.F.Tree.contents l.fn.tree in
    record {
      opened : l.cursor.ended ≡ None;
      log : l.cursor.log ≡ l.fn.cursor.log;
      reads : Reads g.F.Tree l.fn.tree l.tree;
      knows : IsTrue g.F.Tree.tells → Knows l.cursor (g.F.Tree.contents l.tree);
      scans : IsTrue g.F.Tree.tells → Scans (handed_in g.M.Manager l.custom) l.label (to_come l.fn.cursor contents).records (to_come l.cursor contents).records l.fn.seen l.seen;
    }

abbrev pub decreases-records : goal.decreases-records
decreases-records g l = 2 ^ 64 - l.cursor.place
