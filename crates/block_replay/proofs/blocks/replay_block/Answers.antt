use Rattle.std.proofs.Common.{refl}
use Rattle.record_effects.specs.declared.acts.Act.TheVariants.{Image, Make, Change, MapPage}
use Rattle.block_replay.proofs.SparingLemmas.{acts-away}
use Rattle.block_replay.proofs.blocks.replay_block.Goals as goal

pub returns-in-Image-clause-spares : goal.returns-in-Image-clause-spares
returns-in-Image-clause-spares g c told name is free = c.put_image.ensures.spares told name is (acts-away Image _ _ c.in-Image.ensures refl free)

pub returns-in-Make-clause-spares : goal.returns-in-Make-clause-spares
returns-in-Make-clause-spares g c told name is free = c.put_made.ensures.spares told name is (acts-away Make _ _ c.in-Make.ensures refl free)

pub returns-in-Change-clause-spares : goal.returns-in-Change-clause-spares
returns-in-Change-clause-spares g c told name is free = c.change.ensures.spares told name is (acts-away Change _ _ c.in-Change.ensures refl free)

pub returns-in-MapPage-clause-spares : goal.returns-in-MapPage-clause-spares
returns-in-MapPage-clause-spares g c told name is free = c.set_map_bits.ensures.spares told name is (acts-away MapPage _ _ c.in-MapPage.ensures refl free)
