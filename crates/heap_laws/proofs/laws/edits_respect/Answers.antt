use Rattle.heap_laws.proofs.Edited.{edits_same, edits_keep}
use Rattle.heap_laws.proofs.laws.edits_respect.Goals as goal

pub returns-clause-mask : goal.returns-clause-mask
returns-clause-mask c = edits_same

pub returns-clause-page : goal.returns-clause-page
returns-clause-page c = edits_keep
