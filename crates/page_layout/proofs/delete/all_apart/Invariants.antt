use Rattle.std.proofs.Common.{◌≡◌, true}
use Rattle.page_layout.specs.Deletes.{all_apart}
use Rattle.page_layout.proofs.delete.all_apart.Given as goal

abbrev pub invariant-loop-k : goal.invariant-loop-k
invariant-loop-k l = all_apart l.page l.k ≡ true
