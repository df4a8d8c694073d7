use Rattle.layout.proofs.BrokenLemmas.{least_of, none_iff}
use Rattle.layout.proofs.row.first_broken.Goals as goal

pub returns-clause-none : goal.returns-clause-none
returns-clause-none g c = none_iff c.args.rows.now c.find_broken.result c.find_broken.ensures

pub returns-clause-least : goal.returns-clause-least
returns-clause-least g c = λ end ascends. least_of c.args.rows.now c.find_broken.result end ascends c.find_broken.ensures
