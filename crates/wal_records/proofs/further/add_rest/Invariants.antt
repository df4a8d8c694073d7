use Rattle.std.proofs.Common.{◌≡◌, ◌≤◌, ◌*◌, ◌^◌, ◌-◌, IsTrue}
use Rattle.wal_base.specs.Segment.{bytes_of}
use Rattle.wal_pages.specs.Cursor.{Knows}
use Rattle.wal_records.specs.Further.{pages_of, further, gathered}
use Rattle.wal_records.specs.Steps.{Grows, Turns}
use Rattle.wal_records.proofs.further.add_rest.Given as goal

abbrev pub invariant-loop-left : goal.invariant-loop-left
invariant-loop-left g l =
    let pages = pages_of l.fn.pages.log (g.F.Tree.contents l.fn.tree) in
    let size = bytes_of l.fn.pages.log.size in
    record {
      turns : Turns g.F.Tree l.fn.pages l.fn.tree l.pages l.tree;
      fewer : l.left ≤ l.fn.left;
      grows : Grows l.fn.bytes.items l.bytes.items (l.fn.left - l.left);
      later : l.fn.number ≤ l.number;
      within : l.number ≤ 2 ^ 51;
      on : IsTrue g.F.Tree.tells → Knows l.fn.pages (g.F.Tree.contents l.fn.tree) →
          gathered pages size l.bytes.items (further size (l.number * 8192) l.left)
          ≡ gathered pages size l.fn.bytes.items (further size (l.fn.number * 8192) l.fn.left);
    }

abbrev pub decreases-loop-left : goal.decreases-loop-left
decreases-loop-left g l = l.left
