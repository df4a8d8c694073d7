-- Which paths from a root on can be listed. Own: "The list in a replay's mark".
use Rattle.std.specs.Prelude.{◌≡◌, ◌⊎◌, false, List, length}
use Rattle.std.specs.List.{All}
use Rattle.cluster_tree.specs.PathValue.{PathValue}
use Rattle.cluster_tree.specs.declared.file_fault.FileFault.TheVariants as file
use Rattle.file_walk.specs.declared.entry.Entry.{Entry}
use Rattle.file_walk.specs.declared.fault.WalkFault.{WalkFault}
use Rattle.file_walk.specs.declared.fault.WalkFault.TheVariants as fault
use Rattle.file_walk.specs.Faults.{IsMemory}
use Rattle.mark_lines.specs.Ways.{MakeWay}

-- one of proper parts, with room below the root
pub record FitsBelow (root own : PathValue) : Type 0 where
  pub relative : own.absolute ≡ false
  pub way : MakeWay (length root.parts) own.parts

-- .. of each entry that a walk found
abbrev pub AllFit : PathValue → List Entry → Type 0
AllFit root entries = All (λ entry. FitsBelow root entry.path) entries

-- memory is wanting, or a path that doesn't fit was found
abbrev pub IsPlaceFault : PathValue → WalkFault → Type 0
IsPlaceFault root e = IsMemory e ⊎ (e ≡ fault.File (file.Changed root))
