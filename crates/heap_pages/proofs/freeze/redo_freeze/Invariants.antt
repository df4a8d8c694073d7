use Rattle.std.proofs.Common.{◌≡◌, length}
use Rattle.page_layout.specs.Page.{IsFormed}
use Rattle.heap_pages.specs.Freeze.{freeze_page}
use Rattle.heap_pages.proofs.freeze.redo_freeze.Given as goal

abbrev pub invariant-loop-plan : goal.invariant-loop-plan
invariant-loop-plan l = record {
  formed : IsFormed l.page;
  rest : freeze_page l.initial.plans l.initial.page ≡ freeze_page l.plans l.page;
}

abbrev pub decreases-loop-plan : goal.decreases-loop-plan
decreases-loop-plan l = length l.plans
