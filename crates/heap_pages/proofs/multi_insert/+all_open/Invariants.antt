use Rattle.std.proofs.Common.{length}
use Rattle.heap_pages.proofs.multi_insert.+all_open.Given as goal

abbrev pub decreases-all_open : goal.decreases-all_open
decreases-all_open l = length l.places.now
