use Rattle.std.proofs.Common.{◌≡◌, IsTrue}
use Rattle.cluster_tree.specs.Frame.{Reads}
use Rattle.wal_base.specs.Segment.{bytes_of}
use Rattle.wal_records.specs.Cursor.{Knows}
use Rattle.wal_records.specs.Further.{pages_of}
use Rattle.log_walk.specs.Back.{walk_from}
use Rattle.log_walk.proofs.back.walk_back.Given as goal

abbrev pub invariant-records : goal.invariant-records
invariant-records g l =
    let pages = pages_of l.fn.cursor.log (g.F.Tree.contents l.fn.tree) in
    let size = bytes_of l.fn.cursor.log.size in
    record {
      log : l.cursor.log ≡ l.fn.cursor.log;
      reads : Reads g.F.Tree l.fn.tree l.tree;
      knows : IsTrue g.F.Tree.tells → Knows l.cursor (g.F.Tree.contents l.tree);
      same : IsTrue g.F.Tree.tells → walk_from pages size l.below.0 l.fn.from.0 ≡ walk_from pages size l.below.0 l.place.0;
    }

abbrev pub decreases-records : goal.decreases-records
decreases-records g l = l.place.0
