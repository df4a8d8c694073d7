use Rattle.std.proofs.Common.{take}
use Rattle.std.specs.List.{flat_map}
use Rattle.touched_blocks.specs.Named.{whole_rel}
use Rattle.touched_blocks.specs.Set.{Adds}
use Rattle.touched_blocks.proofs.touched.Touched.add_relations.Given as goal

abbrev pub invariant-loop-at : goal.invariant-loop-at
invariant-loop-at l = Adds (flat_map whole_rel (take l.at l.rels)) l.fn.self l.self
