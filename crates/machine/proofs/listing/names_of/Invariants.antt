use Rattle.std.proofs.Common.{◌≡◌, true}
use Rattle.std.specs.List.{list_all}
use Rattle.cluster_tree.specs.PathValue.{is_part}
use Rattle.machine.proofs.listing.names_of.Given as goal

abbrev pub invariant-loop-name : goal.invariant-loop-name
invariant-loop-name g l = list_all is_part l.names ≡ true
