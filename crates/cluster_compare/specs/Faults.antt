-- The faults of a comparison: which depend on no contents, and which may come over every tree. Own: "Answers and their causes".
use Rattle.std.specs.Prelude.{◌≡◌, ◌⊎◌}
use Rattle.cluster_tree.specs.PathValue.{PathValue}
use Rattle.cluster_tree.specs.declared.file_fault.FileFault.{FileFault}
use Rattle.cluster_tree.specs.declared.file_fault.FileFault.TheVariants as file
use Rattle.clusters.specs.Faults.{IsFree as IsFreeOfCluster}
use Rattle.clusters.specs.declared.fault.ClusterFault.TheVariants as cluster
use Rattle.file_walk.specs.Faults.{IsFileRow, IsFree as IsFreeOfWalk, IsRowOf as IsRowOfWalk}
use Rattle.file_walk.specs.declared.fault.WalkFault.TheVariants as walk
use Rattle.cluster_compare.specs.declared.fault.CompareFault.{CompareFault}
use Rattle.cluster_compare.specs.declared.fault.CompareFault.TheVariants as fault

-- a failed read, or want of memory
abbrev pub IsFreeOfFile : FileFault → Type 0
IsFreeOfFile file.ReadFault = Unit {0}
IsFreeOfFile file.WriteFault = ⊥
IsFreeOfFile (file.Link path) = ⊥
IsFreeOfFile (file.NotFolder path) = ⊥
IsFreeOfFile (file.IsFolder path) = ⊥
IsFreeOfFile (file.NameNotText path) = ⊥
IsFreeOfFile (file.TooDeep path) = ⊥
IsFreeOfFile (file.Changed path) = ⊥
IsFreeOfFile file.OutOfMemory = Unit {0}

-- a fault of the device or want of memory, which may come at any point
abbrev pub IsFree : CompareFault → Type 0
IsFree (fault.Cluster e) = IsFreeOfCluster e
IsFree (fault.Walk e) = IsFreeOfWalk e
IsFree (fault.File e) = IsFreeOfFile e

-- a read of the device failed, in whichever part of the comparison
abbrev pub IsReadFault : CompareFault → Type 0
IsReadFault e = (e ≡ fault.Cluster cluster.ReadFault) ⊎ (e ≡ fault.Walk (walk.File file.ReadFault)) ⊎ (e ≡ fault.File file.ReadFault)

-- the tree contradicted itself about this path
abbrev pub IsChangedAt : PathValue → CompareFault → Type 0
IsChangedAt path e =
    (e ≡ fault.Cluster (cluster.Changed path)) ⊎ (e ≡ fault.Walk (walk.File (file.Changed path))) ⊎ (e ≡ fault.File (file.Changed path))

-- about some path
abbrev pub IsChanged : CompareFault → Type 0
IsChanged e = (path : PathValue) × IsChangedAt path e

-- which may come over every tree: any of a cluster, of a walk those of either root, and else a failed read, the second root as no folder, what the tree
-- contradicted, and want of memory
abbrev pub IsRowOf : (first second : PathValue) → CompareFault → Type 0
IsRowOf first second (fault.Cluster e) = Unit {0}
IsRowOf first second (fault.Walk e) = IsRowOfWalk first e ⊎ IsRowOfWalk second e
IsRowOf first second (fault.File e) = IsFileRow second e
