use Rattle.std.proofs.Common.{◌≡◌, ◌-◌, ◌^◌, IsTrue, None}
use Rattle.rmgr_hooks.specs.Custom.{handed_in}
use Rattle.cluster_tree.specs.Frame.{Reads}
use Rattle.wal_records.specs.Cursor.{Knows, to_come}
use Rattle.restart_start.specs.Gathered.{HasGathered}
use Rattle.restart_start.proofs.gather.gather_all.Given as goal

abbrev pub invariant-records : goal.invariant-records
invariant-records g l =
    let contents = g.F.Tree.contents l.fn.tree in
    record {
      opened : l.cursor.ended ≡ None;
      log : l.cursor.log ≡ l.fn.cursor.log;
      reads : Reads g.F.Tree l.fn.tree l.tree;
      knows : IsTrue g.F.Tree.tells → Knows l.cursor (g.F.Tree.contents l.tree);
      gathered : IsTrue g.F.Tree.tells → HasGathered (handed_in g.M.Manager l.custom) (to_come l.fn.cursor contents).records (to_come l.cursor contents).records l.fn.firsts l.firsts;
    }

abbrev pub decreases-records : goal.decreases-records
decreases-records g l = 2 ^ 64 - l.cursor.place
