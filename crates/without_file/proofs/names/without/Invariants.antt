-- The names so far, but for the one.
use Rattle.std.proofs.Common.{◌≡◌, take}
use Rattle.without_file.specs.Without.{others}
use Rattle.without_file.proofs.names.without.Given as goal

abbrev pub invariant-loop-at : goal.invariant-loop-at
invariant-loop-at l = l.left ≡ others l.name (take l.at l.names)
