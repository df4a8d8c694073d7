use Rattle.std.proofs.Common.{◌≡◌, false, take}
use Rattle.std.specs.List.{list_any}
use Rattle.file_walk.specs.Excluded.{is_own_name}
use Rattle.file_walk.proofs.excluding.has_own_name.Given as goal

abbrev pub invariant-loop-at : goal.invariant-loop-at
invariant-loop-at l = list_any is_own_name (take l.at l.path.parts) ≡ false
