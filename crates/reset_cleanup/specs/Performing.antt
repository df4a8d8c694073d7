-- Why the changes of a reset broke off. Own: "Changes under a mark".
use Rattle.std.specs.Prelude.{◌≡◌, ◌⊎◌}
use Rattle.cluster_tree.specs.PathValue.{PathValue}
use Rattle.marked_runs.specs.declared.faults.PerformFault.{PerformFault}
use Rattle.marked_runs.specs.declared.faults.PerformFault.TheVariants as perform
use Rattle.reset_plan.specs.ResetFaults.{changed_at, read_failed}
use Rattle.reset_plan.specs.declared.fault.ResetFault.{ResetFault}
use Rattle.reset_plan.specs.declared.fault.ResetFault.TheVariants as fault

abbrev pub fault_of : PerformFault → ResetFault
fault_of perform.ReadFault = read_failed
fault_of perform.WriteFault = fault.WriteFault
fault_of (perform.Changed path) = changed_at path

-- what changes answer that aren't done
abbrev pub IsOfChange : ResetFault → Type 0
IsOfChange e = (e ≡ fault.WriteFault) ⊎ ((path : PathValue) × (e ≡ changed_at path))
