use Rattle.storage_laws.proofs.TreeLemmas.{created-tree, database-dropped_tree, dropped-tree, made-database_tree, map-tree, map-written_tree, truncated-tree, written-tree}
use Rattle.storage_laws.proofs.trees.tree_laws.Goals as goal

pub returns-clause-written : goal.returns-clause-written
returns-clause-written c = written-tree

pub returns-clause-truncated : goal.returns-clause-truncated
returns-clause-truncated c = truncated-tree

pub returns-clause-created : goal.returns-clause-created
returns-clause-created c = created-tree

pub returns-clause-dropped : goal.returns-clause-dropped
returns-clause-dropped c = dropped-tree

pub returns-clause-edited : goal.returns-clause-edited
returns-clause-edited c = map-tree

pub returns-clause-made : goal.returns-clause-made
returns-clause-made c = made-database_tree

pub returns-clause-database_dropped : goal.returns-clause-database_dropped
returns-clause-database_dropped c = database-dropped_tree

pub returns-clause-map_written : goal.returns-clause-map_written
returns-clause-map_written c = map-written_tree
