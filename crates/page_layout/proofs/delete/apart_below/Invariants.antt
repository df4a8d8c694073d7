use Rattle.std.proofs.Common.{◌≡◌, true}
use Rattle.page_layout.specs.Deletes.{apart_below}
use Rattle.page_layout.proofs.delete.apart_below.Given as goal

abbrev pub invariant-loop-j : goal.invariant-loop-j
invariant-loop-j l = apart_below l.page l.k l.j ≡ true
