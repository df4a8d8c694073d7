use Rattle.backup_label.proofs.LabelLemmas.{line_found, no_line}
use Rattle.backup_label.proofs.pieces.first_line.Goals as goal

pub returns-in-Some : goal.returns-in-Some
returns-in-Some c = line_found c.args.bytes.now c.in-Some.at c.in-Some.ensures

pub returns-in-None : goal.returns-in-None
returns-in-None c = no_line c.args.bytes.now c.in-None.ensures
