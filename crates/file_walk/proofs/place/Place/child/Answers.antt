use Rattle.std.proofs.Common.{length, ap, ◌∙◌}
use Rattle.cluster_tree.specs.PathValue.{below}
use Rattle.cluster_tree.proofs.PartLemmas.{part_admitted, part_kept}
use Rattle.file_walk.proofs.place.Place.child.Goals as goal

pub below-requires : goal.below-requires
below-requires c = record { room = part_admitted (length c.args.self.now.own.parts) c.args.name.now c.requires.own_room c.requires.proper }

pub below-requires-2 : goal.below-requires-2
below-requires-2 c = record { room = part_admitted (length c.args.self.now.full.parts) c.args.name.now c.requires.full_room c.requires.proper }

pub returns-clause-own : goal.returns-clause-own
returns-clause-own c = c.in_ok-below.ensures ∙ ap (below c.args.self.now.own) (part_kept c.args.name.now c.requires.proper)

pub returns-clause-full : goal.returns-clause-full
returns-clause-full c = c.in_ok-below-2.ensures ∙ ap (below c.args.self.now.full) (part_kept c.args.name.now c.requires.proper)
