-- What a stop leaves of a replay that can be started again, and how a run of it went. Own: "What a stop may leave", "A replay that can be started again".
use Rattle.std.specs.Prelude.{◌≡◌, ◌⊎◌, List, Option, Result, IfErr, IfOk, OnOk}
use Rattle.cluster_tree.specs.Contents.{Contents, entry_at}
use Rattle.cluster_tree.specs.PathValue.{PathValue}
use Rattle.cluster_tree.specs.Run.{Moment}
use Rattle.cluster_tree.specs.Stops.{LeavesOnly}
use Rattle.cluster_tree.specs.declared.file_fault.FileFault.{FileFault}
use Rattle.marked_runs.specs.Moments.{IsBegun, IsMarked, IsUntouched, StandsSynced}
use Rattle.replay_copies.specs.Laid.{mark_of}
use Rattle.replay_core.specs.Stops.{IsDurable}
use Rattle.replay_core.specs.Within.{LogStays, StaysWithin}
use Rattle.replay_core.specs.declared.outcome.Replayed.{Replayed as Count}
use Rattle.replay_list.specs.declared.listed.Listed.{Listed}
use Rattle.replay_restore.specs.Freed.{IsRefusal}
use Rattle.replay_restore.specs.Restored.{IsRestored}
use Rattle.replay_start.specs.Checked.{Start}
use Rattle.rmgr_hooks.specs.Custom.{Extension}
use Rattle.replay_restart.specs.Faults.{IsFree, of_files}
use Rattle.replay_restart.specs.Stopped.{IsBringingBack, IsRunLeft, IsStopped}
use Rattle.replay_restart.specs.Meant.{IsLeftBy, IsLeftOver, WhyEnded, WhyFirst, WhyOver}
use Rattle.replay_restart.specs.declared.fault.RestartFault.{RestartFault}
use Rattle.replay_restart.specs.declared.outcome.Restarted.{Restarted}

-- contents that a run which is done leaves
abbrev pub IsWhole : Option Extension → PathValue → Contents → Contents → Type 0
IsWhole custom root c new = (told : Restarted) × IsLeftBy custom c root new told

-- what a stop at any moment leaves: what one could have left at the start; its mark; or all that is meant
abbrev pub IsLeftByRestart : Option Extension → PathValue → Moment → Contents → Type 0
IsLeftByRestart custom root first c = IsUntouched first c ⊎ (IsMarked (mark_of root) c ⊎ IsWhole custom root first.state.contents c)

-- a refusal leaves the mark, unless it came before the first change; a fault of a device, or want of memory, may come before the mark or behind it
abbrev pub LeavesMark : Option Extension → PathValue → (old new : Contents) → RestartFault → Type 0
LeavesMark custom root old new e = IsFree e ⊎ (WhyFirst custom old root e ⊎ IsMarked (mark_of root) new)

-- from the first moment of a run to its last
pub record Restarts (custom : Option Extension) (root : PathValue) (first last : Moment) (result : Result Restarted RestartFault) : Type 0 where
  pub done : IfOk result (IsLeftBy custom first.state.contents root last.state.contents)
  pub refused : IfErr result (λ e. IsFree e ⊎ WhyEnded custom first.state.contents root e)
  pub stands : IfErr result (LeavesMark custom root first.state.contents last.state.contents)
  pub stops : LeavesOnly (IsLeftByRestart custom root first) first.stops last.stops
  pub left : StandsSynced first.state.contents first → LeavesOnly (IsStopped custom root first.state.contents) first.stops last.stops
  pub synced : OnOk result (IsDurable last)
  pub within : StaysWithin root first.state last.state
  pub log : LogStays root first.state.contents last.state.contents

-- over contents with the mark and the copies: a stop leaves the mark, or all that is meant
abbrev pub IsLeftUnder : Option Extension → PathValue → Start → (d c : Contents) → Type 0
IsLeftUnder custom root s d c = IsMarked (mark_of root) c ⊎ ((count : Count) × IsLeftOver custom root s d c count)

-- the replay under the mark, and its end, from the first moment to the last
pub record RunsOver (custom : Option Extension) (root : PathValue) (s : Start) (first last : Moment) (result : Result Count RestartFault) : Type 0 where
  pub done : IfOk result (IsLeftOver custom root s first.state.contents last.state.contents)
  pub refused : IfErr result (λ e. IsFree e ⊎ WhyOver custom root s first.state.contents e)
  pub stands : IfErr result (λ e. IsFree e ⊎ IsMarked (mark_of root) last.state.contents)
  pub stops : LeavesOnly (IsLeftUnder custom root s first.state.contents) first.stops last.stops
  pub left : LeavesOnly (IsRunLeft custom root s first.state.contents) first.stops last.stops
  pub synced : OnOk result (IsDurable last)
  pub within : StaysWithin root first.state last.state
  pub log : LogStays root first.state.contents last.state.contents

-- what is listed is brought back, and synced, from the first moment to the last: a stop leaves what one could have left, or the mark
pub record BringsBack (root : PathValue) (listed : List Listed) (first last : Moment) (result : Result (Unit {0}) RestartFault) : Type 0 where
  pub done : OnOk result (IsRestored root listed first.state.contents last.state.contents × StandsSynced last.state.contents last)
  pub refused : IfErr result (λ e. IsFree e ⊎ ((f : FileFault) × IsRefusal root first.state.contents f × (e ≡ of_files f)))
  pub mark : entry_at last.state.contents (mark_of root) ≡ entry_at first.state.contents (mark_of root)
  pub stops : IsMarked (mark_of root) first.state.contents → LeavesOnly (IsBegun (mark_of root) first) first.stops last.stops
  pub left : StandsSynced first.state.contents first → LeavesOnly (IsBringingBack root listed first.state.contents) first.stops last.stops
  pub within : StaysWithin root first.state last.state
  pub log : LogStays root first.state.contents last.state.contents
