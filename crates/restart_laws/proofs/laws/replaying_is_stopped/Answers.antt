use Rattle.restart_laws.proofs.PlaceLemmas.{beside-wider}
use Rattle.restart_laws.proofs.laws.replaying_is_stopped.Goals as goal

pub returns : goal.returns
returns g = λ custom root s d x replaying. record { beside = beside-wider root d x replaying.beside; blocks = λ name page main own free has. replaying.blocks name page main free has }
