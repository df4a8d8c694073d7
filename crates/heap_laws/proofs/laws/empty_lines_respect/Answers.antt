use Rattle.heap_laws.proofs.Freed.{vacuum_alike, vacuum_leaves}
use Rattle.heap_laws.proofs.laws.empty_lines_respect.Goals as goal

pub returns-clause-mask : goal.returns-clause-mask
returns-clause-mask c = vacuum_alike

pub returns-clause-page : goal.returns-clause-page
returns-clause-page c = vacuum_leaves
