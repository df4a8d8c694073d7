use Rattle.std.proofs.Common.{◌≡◌, drop}
use Rattle.page_layout.specs.Page.{IsFormed}
use Rattle.heap_pages.specs.Freeze.{freeze_places}
use Rattle.heap_pages.proofs.freeze.freeze_places.Given as goal

abbrev pub invariant-loop-i : goal.invariant-loop-i
invariant-loop-i l = record {
  formed : IsFormed l.page;
  rest : freeze_places l.plan l.plan.places l.initial.page ≡ freeze_places l.plan (drop l.i l.plan.places) l.page;
}
