-- How a call goes on at a bound: F.Tree is the record of the members of F. Own: "Answers and their causes".
use Rattle.cluster_tree.specs.Run.{OnlyReads, Goes, State, state_by, Moment, moment_by}
use Rattle.cluster_tree.specs.declared.tree.Tree.{Ghosts}

-- what changes nothing
abbrev pub Reads : {F : Type 0} → Ghosts F → F → F → Type 0
Reads tree old new = OnlyReads tree.contents tree.calls tree.stops tree.failed_reads tree.failed_changes old new

-- what any calls leave
abbrev pub Came : {F : Type 0} → Ghosts F → F → F → Type 0
Came tree old new = Goes tree.contents tree.calls tree.stops tree.failed_reads tree.failed_changes old new

-- all that a tree tells of its files
abbrev pub state_of : {F : Type 0} → Ghosts F → F → State
state_of tree = state_by tree.contents tree.calls

-- and of what a stop may leave
abbrev pub moment_of : {F : Type 0} → Ghosts F → F → Moment
moment_of tree = moment_by tree.contents tree.calls tree.stops
