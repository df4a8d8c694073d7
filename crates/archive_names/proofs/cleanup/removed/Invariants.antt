use Rattle.std.proofs.Common.{◌≡◌, filter, option_map, take}
use Rattle.archive_names.specs.Cleanup.{goes}
use Rattle.archive_names.proofs.cleanup.removed.Given as goal

abbrev pub invariant-loop-at : goal.invariant-loop-at
invariant-loop-at l = l.gone ≡ filter (goes (option_map (λ s. s.now) l.extension) l.first) (take l.at l.names)
