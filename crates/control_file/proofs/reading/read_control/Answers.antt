use Rattle.std.proofs.Common.{◌∙◌, sym}
use Rattle.control_file.proofs.ReadingLemmas.{ok_is, file_is, control_is, shape_is}
use Rattle.control_file.proofs.reading.read_control.Goals as goal

pub returns-clause-ok : goal.returns-clause-ok
returns-clause-ok c = λ control. (λ e. ok_is c.args.bytes.now control (sym c.read.ensures ∙ e), λ is. c.read.ensures ∙ file_is c.args.bytes.now control is)

pub returns-clause-control : goal.returns-clause-control
returns-clause-control c = control_is c.args.bytes.now c.read.result c.read.ensures

pub returns-clause-shape : goal.returns-clause-shape
returns-clause-shape c = λ field value e. shape_is c.args.bytes.now field value (sym c.read.ensures ∙ e)
