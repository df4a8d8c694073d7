use Rattle.std.proofs.Common.{◌≡◌, ◌<◌, true, length}
use Rattle.page_layout.specs.Page.{IsFormed}
use Rattle.btree_pages.specs.Items.{with_items}
use Rattle.btree_posting.specs.Dedup.{can_merge_all, dedup_tuples}
use Rattle.btree_posting.proofs.dedup.put_all.Given as goal

abbrev pub invariant-loop-interval : goal.invariant-loop-interval
invariant-loop-interval l = record {
  formed : IsFormed l.room;
  above : 0 < l.from;
  can : can_merge_all l.page l.from l.intervals ≡ true;
  rest : with_items (dedup_tuples l.page 1 l.initial.intervals) l.initial.room ≡ with_items (dedup_tuples l.page l.from l.intervals) l.room;
}

abbrev pub decreases-loop-interval : goal.decreases-loop-interval
decreases-loop-interval l = length l.intervals
