use Rattle.std.proofs.Common.{subst, sym}
use Rattle.control_file.specs.Admission.{IsControl}
use Rattle.replay_control.proofs.ControlLemmas.{left-keeps}
use Rattle.replay_control.proofs.following.control_left.Goals as goal

pub returns-clause-control : goal.returns-clause-control
returns-clause-control c = λ is. subst IsControl (sym c.leave.ensures) (left-keeps c.args.tli c.args.end.0 c.args.control.now is)
