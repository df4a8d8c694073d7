-- Why a reset is refused: those faults that don't depend on the contents, those of a cluster and of a folder. Own: "Answers and their causes".
use Rattle.std.specs.Prelude.{◌≡◌, ◌⊎◌, Result, Ok, Err}
use Rattle.cluster_tree.specs.PathValue.{PathValue}
use Rattle.cluster_tree.specs.declared.tree.TreeFault.{TreeFault}
use Rattle.cluster_tree.specs.declared.tree.TreeFault.TheVariants as tree_fault
use Rattle.clusters.specs.declared.fault.ClusterFault.{ClusterFault}
use Rattle.clusters.specs.declared.fault.ClusterFault.TheVariants as cluster
use Rattle.reset_plan.specs.declared.fault.ResetFault.{ResetFault}
use Rattle.reset_plan.specs.declared.fault.ResetFault.TheVariants as fault

-- those of a cluster that a reset answers of its own reads too: one failed, memory is wanting, and the tree contradicted itself about a path
abbrev pub read_failed : ResetFault
read_failed = fault.Cluster cluster.ReadFault

abbrev pub no_memory : ResetFault
no_memory = fault.Cluster cluster.OutOfMemory

abbrev pub changed_at : PathValue → ResetFault
changed_at path = fault.Cluster (cluster.Changed path)

-- a fault of the device or want of memory, which may come at any point
abbrev pub IsFree : ResetFault → Type 0
IsFree e = (e ≡ read_failed) ⊎ (e ≡ fault.WriteFault) ⊎ (e ≡ no_memory)

-- what a cluster says, or why a reset is refused for it
abbrev pub told_by : {A : Type 0} → Result A ClusterFault → Result A ResetFault
told_by (Ok v) = Ok v
told_by (Err e) = Err (fault.Cluster e)

-- why the names of a folder aren't known
abbrev pub folder_fault : PathValue → TreeFault → ResetFault
folder_fault folder tree_fault.Link = fault.Link folder
folder_fault folder tree_fault.NameNotText = fault.NameNotText folder
folder_fault folder tree_fault.Failed = read_failed
folder_fault folder tree_fault.OutOfMemory = no_memory
folder_fault folder tree_fault.Absent = fault.NotFolder folder
folder_fault folder tree_fault.NotFolder = fault.NotFolder folder
folder_fault folder tree_fault.IsFolder = fault.NotFolder folder
folder_fault folder tree_fault.Exists = fault.NotFolder folder
folder_fault folder tree_fault.NotEmpty = fault.NotFolder folder
folder_fault folder tree_fault.PastEnd = fault.NotFolder folder
