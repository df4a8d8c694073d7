use Rattle.std.proofs.Common.{length}
use Rattle.heap_pages.proofs.multi_insert.+are_distinct.Given as goal

abbrev pub decreases-are_distinct : goal.decreases-are_distinct
decreases-are_distinct l = length l.places.now
