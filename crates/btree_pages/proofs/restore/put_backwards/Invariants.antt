use Rattle.std.proofs.Common.{◌≡◌, ◌≤◌, length, take, reverse}
use Rattle.page_layout.specs.Page.{IsFormed}
use Rattle.btree_pages.specs.Items.{with_items}
use Rattle.btree_pages.proofs.RestoreLemmas.{held}
use Rattle.btree_pages.proofs.restore.put_backwards.Given as goal

abbrev pub invariant-loop-i : goal.invariant-loop-i
invariant-loop-i l = record {
  formed : IsFormed l.page;
  bound : l.i ≤ length l.tuples;
  rest : with_items (reverse (held l.tuples)) l.initial.page ≡ with_items (reverse (held (take l.i l.tuples))) l.page;
}

abbrev pub decreases-loop-i : goal.decreases-loop-i
decreases-loop-i l = l.i
