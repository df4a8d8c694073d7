use Rattle.std.proofs.Common.{◌≡◌, ◌-◌, ◌^◌, ◌≤◌, ◌<◌, IsTrue}
use Rattle.wal_base.specs.Segment.{bytes_of}
use Rattle.wal_pages.specs.Cursor.{Knows}
use Rattle.wal_records.specs.Further.{pages_of}
use Rattle.wal_records.specs.Log.{log_from}
use Rattle.wal_records.specs.Steps.{Turns}
use Rattle.wal_records.proofs.search.find.Given as goal

abbrev pub invariant-pages : goal.invariant-pages
invariant-pages g l =
    let pages = pages_of l.fn.pages.log (g.F.Tree.contents l.fn.tree) in
    let size = bytes_of l.fn.pages.log.size in
    record {
      turns : Turns g.F.Tree l.fn.pages l.fn.tree l.pages l.tree;
      up : l.fn.place ≤ l.place;
      low : l.place < 2 ^ 64;
      on : IsTrue g.F.Tree.tells → Knows l.fn.pages (g.F.Tree.contents l.fn.tree) → log_from pages size l.before l.fn.place ≡ log_from pages size l.before l.place;
    }

abbrev pub decreases-pages : goal.decreases-pages
decreases-pages g l = 2 ^ 64 - l.place
