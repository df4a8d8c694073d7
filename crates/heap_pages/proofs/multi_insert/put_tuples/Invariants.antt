use Rattle.std.proofs.Common.{◌≡◌, ◌≤◌, length, drop}
use Rattle.page_layout.specs.Page.{IsFormed}
use Rattle.heap_pages.specs.MultiInsert.{put_tuples}
use Rattle.heap_pages.proofs.multi_insert.put_tuples.Given as goal

abbrev pub invariant-loop-tuple : goal.invariant-loop-tuple
invariant-loop-tuple l = record {
  formed : IsFormed l.page;
  rest : put_tuples l.from.xid l.from.block l.places l.initial.tuples l.initial.page ≡ put_tuples l.from.xid l.from.block (drop l.i l.places) l.tuples l.page;
  bound : l.i ≤ length l.places;
}

abbrev pub decreases-loop-tuple : goal.decreases-loop-tuple
decreases-loop-tuple l = length l.tuples
