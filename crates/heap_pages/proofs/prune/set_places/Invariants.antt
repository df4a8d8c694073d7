use Rattle.std.proofs.Common.{◌≡◌, length}
use Rattle.page_layout.specs.Page.{IsFormed}
use Rattle.heap_pages.specs.Lines.{set_places}
use Rattle.heap_pages.proofs.prune.set_places.Given as goal

abbrev pub invariant-loop-place : goal.invariant-loop-place
invariant-loop-place l = record {
  formed : IsFormed l.page;
  rest : set_places l.flags l.initial.places l.initial.page ≡ set_places l.flags l.places l.page;
}

abbrev pub decreases-loop-place : goal.decreases-loop-place
decreases-loop-place l = length l.places
