use Rattle.std.proofs.Common.{take}
use Rattle.std.specs.List.{list_any}
use Rattle.replay_profile.specs.Names.{is_rel}
use Rattle.first_effects.specs.Taken.{Takes}
use Rattle.first_effects.proofs.taken.Taken.add_dropped.Given as goal

abbrev pub invariant-loop-at : goal.invariant-loop-at
invariant-loop-at l = Takes (λ name. list_any (λ rel. is_rel rel name.rel) (take l.at l.rels)) l.fn.self l.self
