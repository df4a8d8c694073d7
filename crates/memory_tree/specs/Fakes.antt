-- What the fakes hold, and how their calls go by a plan. Own: "Fakes in memory".
use Rattle.std.specs.Prelude.{◌≡◌, ℕ, ◌+◌, ◌<◌, true, false, List, Result, Err}
use Rattle.cluster_tree.specs.Causes.{Rose}
use Rattle.cluster_tree.specs.Contents.{Contents}
use Rattle.memory_tree.specs.Memory.{contents_of, stops_of}
use Rattle.memory_tree.specs.Plan.{fails_at}
use Rattle.cluster_tree.specs.Run.{State, Moment}
use Rattle.cluster_tree.specs.Stops.{Stops}
use Rattle.cluster_tree.specs.Tree.{Counts}
use Rattle.cluster_tree.specs.declared.tree.ChangeCall.{ChangeCall}
use Rattle.cluster_tree.specs.declared.tree.TreeFault.{TreeFault}
use Rattle.cluster_tree.specs.declared.tree.TreeFault.TheVariants as fault
use Rattle.memory_tree.specs.declared.plan.FailPlan.{FailPlan}
use Rattle.memory_tree.specs.declared.memory.MemoryTree.{MemoryTree}
use Rattle.memory_tree.specs.declared.failing.FailingTree.{FailingTree}
use Rattle.memory_tree.specs.declared.memory_sink.MemorySink.{MemorySink}

-- what a tree in memory holds
abbrev pub contents_in : MemoryTree → Contents
contents_in tree = contents_of tree.nodes.items

-- the changing calls on it, in order
abbrev pub calls_in : MemoryTree → List ChangeCall
calls_in tree = tree.log.calls.items

-- what a stop may leave of it, and might have left
abbrev pub stops_in : MemoryTree → Stops
stops_in tree = stops_of tree.log

-- how many changing calls on it found no memory
abbrev pub failures_in : MemoryTree → ℕ
failures_in tree = tree.failed

-- none of its reads fails
abbrev pub no_failures : MemoryTree → ℕ
no_failures tree = 0

-- the tree whose calls fail by a plan
abbrev pub tree_within : FailingTree → MemoryTree
tree_within tree = tree.inner

-- the plan of a tree's calls from now on
abbrev pub tree_plan : FailingTree → FailPlan
tree_plan tree = tree.plan

-- how many reads failed by the plan
abbrev pub planned_reads : FailingTree → ℕ
planned_reads tree = tree.failed_reads

-- how many changing calls failed by the plan
abbrev pub planned_changes : FailingTree → ℕ
planned_changes tree = tree.failed_changes

-- how many changing calls failed by it or within
abbrev pub changes_failed : FailingTree → ℕ
changes_failed tree = planned_changes tree + failures_in (tree_within tree)

-- what its calls left in it
abbrev pub contents_left : FailingTree → Contents
contents_left tree = contents_in (tree_within tree)

-- and all that they left
abbrev pub state_left : FailingTree → State
state_left tree = record { contents = contents_left tree; calls = calls_in (tree_within tree) }

-- and what a stop may leave
abbrev pub moment_left : FailingTree → Moment
moment_left tree = record { state = state_left tree; stops = stops_in (tree_within tree) }

-- the plan of a sink's writes from now on
abbrev pub sink_plan : MemorySink → FailPlan
sink_plan sink = sink.plan

-- the bytes that a sink was given
abbrev pub sink_bytes : MemorySink → List ℕ
sink_bytes sink = sink.bytes.items

-- how many of its writes failed
abbrev pub sink_failures : MemorySink → ℕ
sink_failures sink = sink.failed

-- a call takes one turn: what is left is the plan of the calls after it
abbrev pub TakesTurn : FailPlan → FailPlan → Type 0
TakesTurn old new = (n : ℕ) → 0 < n → fails_at new n ≡ fails_at old (n + 1)

-- a call of the plan fails, is counted and leaves the tree within; another fails only where that tree does
pub record Planned {A : Type 0} (count : FailingTree → ℕ) (count_within other_within : MemoryTree → ℕ) (old new : FailingTree) (result : Result A TreeFault) : Type 0 where
  pub turn : TakesTurn old.plan new.plan
  pub fails : fails_at old.plan 1 ≡ true → (result ≡ Err fault.Failed) × (new.inner ≡ old.inner) × Rose (count old) (count new)
  pub answers : fails_at old.plan 1 ≡ false → (count new ≡ count old) × Counts count_within other_within old.inner new.inner result

-- the same of a read
abbrev pub PlannedRead : {A : Type 0} → FailingTree → FailingTree → Result A TreeFault → Type 0
PlannedRead old new result = Planned planned_reads no_failures failures_in old new result

-- and of a changing call
abbrev pub PlannedChange : {A : Type 0} → FailingTree → FailingTree → Result A TreeFault → Type 0
PlannedChange old new result = Planned planned_changes failures_in no_failures old new result
