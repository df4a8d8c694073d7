-- Where the changing calls of a replay go. Own: "Changes under a mark".
use Rattle.std.specs.Prelude.{◌≡◌, ◌⊎◌, true, List, [], ◌∷◌, ◌++◌}
use Rattle.acts.specs.Acts.{AreBelow}
use Rattle.clusters.specs.Roots.{wal_folder}
use Rattle.cluster_tree.specs.Contents.{Contents, entry_at, is_file}
use Rattle.cluster_tree.specs.PathValue.{PathValue, Holds}
use Rattle.cluster_tree.specs.Run.{State}
use Rattle.cluster_tree.specs.declared.tree.ChangeCall.{ChangeCall}
use Rattle.replay_start.specs.declared.fault.ReplayFault.{ReplayFault}
use Rattle.replay_core.specs.Faults.{IsFree}
use Rattle.replay_core.specs.Replayed.{mark_of}

-- calls were made between two states, each a sync or of a path that the root holds, and every other path has what it had
pub record StaysWithin (root : PathValue) (old new : State) : Type 0 where
  pub made : List ChangeCall
  pub grew : new.calls ≡ old.calls ++ made
  pub within : AreBelow (root ∷ []) made
  pub elsewhere : (path : PathValue) → (Holds root path → ⊥) → entry_at new.contents path ≡ entry_at old.contents path

-- what stands at or below the folder of the log is what stood there
abbrev pub LogStays : PathValue → Contents → Contents → Type 0
LogStays root c c' = (path : PathValue) → Holds (wal_folder root) path → entry_at c' path ≡ entry_at c path

-- the mark stands
abbrev pub IsMarked : PathValue → Contents → Type 0
IsMarked root c = is_file (entry_at c (mark_of root)) ≡ true

-- a refusal leaves the mark; a fault of the device, or want of memory, may come before it or behind it
abbrev pub LeavesMark : PathValue → Contents → ReplayFault → Type 0
LeavesMark root c e = IsFree e ⊎ IsMarked root c
