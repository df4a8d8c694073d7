use Rattle.std.proofs.Common.{◌≡◌, drop}
use Rattle.replay_profile.specs.Names.{are_known}
use Rattle.replay_profile.proofs.references.are_known.Given as goal

abbrev pub invariant-loop-at : goal.invariant-loop-at
invariant-loop-at l = are_known l.parts.blocks ≡ are_known (drop l.at l.parts.blocks)
