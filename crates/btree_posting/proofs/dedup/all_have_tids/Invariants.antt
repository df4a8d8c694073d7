use Rattle.std.proofs.Common.{◌≡◌}
use Rattle.std.specs.List.{list_all}
use Rattle.btree_pages.specs.Items.{items}
use Rattle.btree_posting.specs.Tuple.{has_tids}
use Rattle.btree_posting.proofs.dedup.all_have_tids.Given as goal

abbrev pub invariant-loop-place : goal.invariant-loop-place
invariant-loop-place l = list_all has_tids (items l.page l.start l.end) ≡ list_all has_tids (items l.page l.place l.end)
