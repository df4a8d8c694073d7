use Rattle.std.proofs.Common.{◌≡◌, drop}
use Rattle.replay_profile.specs.Names.{is_named}
use Rattle.replay_profile.proofs.references.is_named.Given as goal

abbrev pub invariant-loop-at : goal.invariant-loop-at
invariant-loop-at l = is_named l.name (drop l.fn.from l.parts.blocks) ≡ is_named l.name (drop l.at l.parts.blocks)
