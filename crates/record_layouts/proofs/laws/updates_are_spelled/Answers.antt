use Rattle.record_layouts.proofs.HeapSpellingLemmas.{update_fits, update_read, update_spelled}
use Rattle.record_layouts.proofs.laws.updates_are_spelled.Goals as goal

pub returns-clause-read : goal.returns-clause-read
returns-clause-read c = update_read

pub returns-clause-fit : goal.returns-clause-fit
returns-clause-fit c = update_fits

pub returns-clause-spelled : goal.returns-clause-spelled
returns-clause-spelled c = update_spelled
