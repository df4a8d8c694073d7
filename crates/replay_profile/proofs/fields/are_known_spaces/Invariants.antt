use Rattle.std.proofs.Common.{◌≡◌, drop}
use Rattle.std.specs.List.{list_all}
use Rattle.replay_profile.specs.Names.{is_known_space}
use Rattle.replay_profile.proofs.fields.are_known_spaces.Given as goal

abbrev pub invariant-loop-at : goal.invariant-loop-at
invariant-loop-at l = list_all is_known_space l.spaces ≡ list_all is_known_space (drop l.at l.spaces)
