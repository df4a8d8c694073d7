use Rattle.cluster_tree.proofs.RootLemmas.{holds-below, held-below, roots-apart, step-outside}
use Rattle.cluster_tree.proofs.laws.root_laws.Goals as goal

pub returns-clause-below : goal.returns-clause-below
returns-clause-below c = holds-below

pub returns-clause-held : goal.returns-clause-held
returns-clause-held c = held-below

pub returns-clause-apart : goal.returns-clause-apart
returns-clause-apart c = roots-apart

pub returns-clause-outside : goal.returns-clause-outside
returns-clause-outside c = step-outside
