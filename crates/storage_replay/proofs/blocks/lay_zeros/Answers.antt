use Rattle.storage_replay.proofs.blocks.lay_zeros.Goals as goal

pub returns-clause-exact : goal.returns-clause-exact
returns-clause-exact g c told = c.lay.ensures.exact told

pub returns-clause-spares : goal.returns-clause-spares
returns-clause-spares g c told piece is = c.lay.ensures.spares told piece is
