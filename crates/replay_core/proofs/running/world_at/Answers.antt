use Rattle.replay_core.proofs.StandLemmas.{fit-files}
use Rattle.replay_core.proofs.running.world_at.Goals as goal

pub returns-clause-fit : goal.returns-clause-fit
returns-clause-fit c = fit-files c.args.root.now c.in_ok-copy.field-0 c.args.control c.in_ok-copy.ensures c.requires.room c.requires.control
