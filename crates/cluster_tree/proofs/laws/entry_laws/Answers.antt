use Rattle.cluster_tree.proofs.ContentsLemmas.{entry-put, entry-put_other, entry-removed, entry-removed_other}
use Rattle.cluster_tree.proofs.laws.entry_laws.Goals as goal

pub returns-clause-put : goal.returns-clause-put
returns-clause-put c = entry-put

pub returns-clause-put_elsewhere : goal.returns-clause-put_elsewhere
returns-clause-put_elsewhere c = entry-put_other

pub returns-clause-removed : goal.returns-clause-removed
returns-clause-removed c = entry-removed

pub returns-clause-removed_elsewhere : goal.returns-clause-removed_elsewhere
returns-clause-removed_elsewhere c = entry-removed_other
