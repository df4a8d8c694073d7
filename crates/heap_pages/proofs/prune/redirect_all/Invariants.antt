use Rattle.std.proofs.Common.{◌≡◌, length}
use Rattle.page_layout.specs.Page.{IsFormed}
use Rattle.heap_pages.specs.Prune.{redirect_all}
use Rattle.heap_pages.proofs.prune.redirect_all.Given as goal

abbrev pub invariant-loop-redirect : goal.invariant-loop-redirect
invariant-loop-redirect l = record {
  formed : IsFormed l.page;
  rest : redirect_all l.initial.redirects l.initial.page ≡ redirect_all l.redirects l.page;
}

abbrev pub decreases-loop-redirect : goal.decreases-loop-redirect
decreases-loop-redirect l = length l.redirects
