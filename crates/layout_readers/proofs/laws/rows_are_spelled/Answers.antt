use Rattle.layout_readers.proofs.RowLemmas.{row_fits, row_spelled}
use Rattle.layout_readers.proofs.laws.rows_are_spelled.Goals as goal

pub returns-clause-fit : goal.returns-clause-fit
returns-clause-fit c = row_fits

pub returns-clause-spelled : goal.returns-clause-spelled
returns-clause-spelled c = row_spelled
