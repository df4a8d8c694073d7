use Rattle.std.proofs.Common.{◌≡◌, length}
use Rattle.page_layout.specs.Page.{IsFormed}
use Rattle.btree_posting.specs.Updates.{shorten_items}
use Rattle.btree_posting.proofs.updates.shorten_items.Given as goal

abbrev pub invariant-loop-update : goal.invariant-loop-update
invariant-loop-update l = record {
  formed : IsFormed l.page;
  rest : shorten_items l.initial.updates l.initial.page ≡ shorten_items l.updates l.page;
}

abbrev pub decreases-loop-update : goal.decreases-loop-update
decreases-loop-update l = length l.updates
