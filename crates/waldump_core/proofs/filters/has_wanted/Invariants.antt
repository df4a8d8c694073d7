use Rattle.std.proofs.Common.{◌≡◌, false, take}
use Rattle.std.specs.List.{list_any}
use Rattle.waldump_core.specs.Selecting.{is_wanted}
use Rattle.waldump_core.proofs.filters.has_wanted.Given as goal

abbrev pub invariant-loop-at : goal.invariant-loop-at
invariant-loop-at l = list_any (is_wanted l.sel) (take l.at l.parts.blocks) ≡ false
