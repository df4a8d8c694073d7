use Rattle.std.proofs.Common.{subst, sym}
use Rattle.control_file.specs.Admission.{IsControl}
use Rattle.reset_numbers.proofs.ControlLemmas.{renewed}
use Rattle.reset_numbers.proofs.control.new_control.Goals as goal

pub returns-clause-control : goal.returns-clause-control
returns-clause-control c =
    subst IsControl (sym c.fields.ensures) (renewed c.args.options.now _ c.args.at c.bytes.result c.args.old.now c.requires c.bytes.ensures.size)
