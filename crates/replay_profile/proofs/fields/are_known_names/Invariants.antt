use Rattle.std.proofs.Common.{◌≡◌, drop}
use Rattle.std.specs.List.{list_all}
use Rattle.replay_profile.specs.Names.{is_known_rel}
use Rattle.replay_profile.proofs.fields.are_known_names.Given as goal

abbrev pub invariant-loop-at : goal.invariant-loop-at
invariant-loop-at l = list_all is_known_rel l.rels ≡ list_all is_known_rel (drop l.at l.rels)
