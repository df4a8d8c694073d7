use Rattle.std.proofs.Common.{◌≡◌}
use Rattle.page_layout.specs.Page.{IsFormed}
use Rattle.btree_pages.specs.Items.{with_items, items}
use Rattle.btree_pages.proofs.items.put_lines_of.Given as goal

abbrev pub invariant-loop-place : goal.invariant-loop-place
invariant-loop-place l = record {
  formed : IsFormed l.page;
  rest : with_items (items l.from l.start l.end) l.initial.page ≡ with_items (items l.from l.place l.end) l.page;
}
