-- The faults of a cluster that don't depend on the contents. Own: "Answers and their causes".
use Rattle.std.specs.Prelude.{◌≡◌, ◌⊎◌}
use Rattle.clusters.specs.declared.fault.ClusterFault.{ClusterFault}
use Rattle.clusters.specs.declared.fault.ClusterFault.TheVariants as fault

-- a fault of the device or want of memory, which may come at any point
abbrev pub IsFree : ClusterFault → Type 0
IsFree e = (e ≡ fault.ReadFault) ⊎ (e ≡ fault.OutOfMemory)
