use Rattle.file_edits.proofs.LawLemmas.{own-elsewhere}
use Rattle.file_edits.proofs.OwnLemmas.{goes_on, goes_wider}
use Rattle.file_edits.proofs.laws.own_laws.Goals as goal

pub returns-clause-elsewhere : goal.returns-clause-elsewhere
returns-clause-elsewhere c = own-elsewhere

pub returns-clause-in_turn : goal.returns-clause-in_turn
returns-clause-in_turn c = goes_on

pub returns-clause-wider : goal.returns-clause-wider
returns-clause-wider c = goes_wider
