use Rattle.std.proofs.Common.{◌≡◌, drop}
use Rattle.std.specs.List.{list_any}
use Rattle.replay_profile.specs.Names.{is_rel}
use Rattle.block_effects.proofs.gone.is_listed.Given as goal

abbrev pub invariant-loop-at : goal.invariant-loop-at
invariant-loop-at l = list_any (λ listed. is_rel listed l.rel) l.rels ≡ list_any (λ listed. is_rel listed l.rel) (drop l.at l.rels)
