use Rattle.replay_restart.proofs.PlaceLemmas.{laid-not_restored}
use Rattle.restart_laws.proofs.laws.stopped_keeps_mark.Goals as goal

pub returns : goal.returns
returns c = λ custom root s d x stopped path laid. stopped.beside path (laid-not_restored root path laid)
