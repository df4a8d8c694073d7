use Rattle.std.proofs.Common.{◌≡◌, length}
use Rattle.page_layout.specs.Page.{IsFormed}
use Rattle.heap_pages.specs.Vacuum.{vacuum_page}
use Rattle.heap_pages.proofs.vacuum.redo_vacuum.Given as goal

abbrev pub invariant-loop-place : goal.invariant-loop-place
invariant-loop-place l = record {
  formed : IsFormed l.page;
  rest : vacuum_page l.initial.places l.initial.page ≡ vacuum_page l.places l.page;
}

abbrev pub decreases-loop-place : goal.decreases-loop-place
decreases-loop-place l = length l.places
