use Rattle.std.proofs.Common.{◌≡◌, false, take}
use Rattle.std.specs.List.{list_any}
use Rattle.waldump_core.specs.Selecting.{has_image}
use Rattle.waldump_core.proofs.filters.has_image.Given as goal

abbrev pub invariant-loop-at : goal.invariant-loop-at
invariant-loop-at l = list_any has_image (take l.at l.parts.blocks) ≡ false
