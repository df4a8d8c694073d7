use Rattle.std.proofs.Common.{◌≡◌, ◌%◌, ◌-◌, ◌^◌, ◌<◌, IsTrue}
use Rattle.cluster_tree.specs.Frame.{Reads}
use Rattle.wal_base.specs.Segment.{bytes_of}
use Rattle.wal_records.specs.Further.{pages_of}
use Rattle.waldump_core.specs.FirstPlace.{first_place}
use Rattle.waldump_core.proofs.first_place.first_place.Given as goal

abbrev pub invariant-pages : goal.invariant-pages
invariant-pages g l =
    let log = l.fn.pages.log in
    let contents = g.F.Tree.contents l.fn.tree in
    record {
      same : l.pages.log ≡ log;
      whole : l.at % 8192 ≡ 0;
      within : l.at < 2 ^ 64;
      reads : Reads g.F.Tree l.fn.tree l.tree;
      place : IsTrue g.F.Tree.tells → first_place (pages_of log contents) (bytes_of log.size) l.at
          ≡ first_place (pages_of log contents) (bytes_of log.size) l.fn.from;
    }

abbrev pub decreases-pages : goal.decreases-pages
decreases-pages g l = 2 ^ 64 - l.at
