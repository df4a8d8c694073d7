use Rattle.cluster_tree.proofs.ListingLemmas.{has_child-named, listing-one}
use Rattle.cluster_tree.proofs.NamesLemmas.{names_listing}
use Rattle.cluster_tree.proofs.laws.folder_laws.Goals as goal

pub returns-clause-child : goal.returns-clause-child
returns-clause-child c = has_child-named

pub returns-clause-listing : goal.returns-clause-listing
returns-clause-listing c = listing-one

pub returns-clause-names : goal.returns-clause-names
returns-clause-names c = names_listing
