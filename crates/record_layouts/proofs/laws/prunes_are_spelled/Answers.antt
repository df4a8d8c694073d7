use Rattle.record_layouts.proofs.HeapSpellingLemmas.{prune_fits, prune_read, prune_spelled}
use Rattle.record_layouts.proofs.laws.prunes_are_spelled.Goals as goal

pub returns-clause-read : goal.returns-clause-read
returns-clause-read c = prune_read

pub returns-clause-fit : goal.returns-clause-fit
returns-clause-fit c = prune_fits

pub returns-clause-spelled : goal.returns-clause-spelled
returns-clause-spelled c = prune_spelled
