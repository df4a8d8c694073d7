-- What a replay that can be started again begins from, or why it isn't begun. Own: "A replay that can be started again".
use Rattle.std.specs.Prelude.{◌≡◌, ◌⊎◌, List, Option, None, Some, Result, Ok, Err, MatchResult}
use Rattle.block_refs.specs.declared.names.BlockName.{BlockName}
use Rattle.cluster_tree.specs.Contents.{Contents}
use Rattle.cluster_tree.specs.Marks.{marks_of}
use Rattle.cluster_tree.specs.PathValue.{PathValue}
use Rattle.file_walk.specs.Faults as walks
use Rattle.file_walk.specs.declared.fault.WalkFault.{WalkFault}
use Rattle.first_effects.specs.First.{IsLeastChanged}
use Rattle.replay_areas.specs.Listing.{areas_listed}
use Rattle.replay_list.specs.declared.listed.Listed.{Listed}
use Rattle.replay_start.specs.Checked.{IsStart, Start, start_of}
use Rattle.replay_start.specs.Faults as replays
use Rattle.replay_start.specs.declared.fault.ReplayFault.{ReplayFault}
use Rattle.restart_start.specs.Gathered.{splits_of}
use Rattle.restart_start.specs.declared.fault.RestartFault.{RestartFault}
use Rattle.restart_start.specs.declared.fault.RestartFault.TheVariants as fault
use Rattle.restart_start.specs.declared.starting.Beginning.{Beginning}
use Rattle.rmgr_hooks.specs.Custom.{Extension}
use Rattle.without_file.specs.Without.{without_file}

-- what is seen without the file at the mark of a replay
abbrev pub without_own : Contents → PathValue → Contents
without_own c root = without_file c (marks_of root).replay

-- a fault of the device or want of memory, which may come at any point
abbrev pub IsFree : RestartFault → Type 0
IsFree (fault.Replay e) = replays.IsFree e
IsFree (fault.Walk e) = walks.IsFree e
IsFree (fault.NotRestartable name) = ⊥

-- A cluster passes every check of a replay, nothing is wrong at or below the folders that replay changes, and of this log and this list no
-- block of a main fork is changed first.
pub record MayBegin (custom : Option Extension) (c : Contents) (root : PathValue) (start : Start) (listed : List Listed) : Type 0 where
  pub passes : start_of custom c root ≡ Ok start
  pub lists : areas_listed c root ≡ Ok listed
  pub anew : IsLeastChanged custom (splits_of start.records) None

-- The first point that refuses: what refuses any replay; what is wrong at or below those folders; and the least block that is changed first.
pub data WhyNot (custom : Option Extension) (c : Contents) (root : PathValue) : RestartFault → Type 0 where
  Refused : (e : ReplayFault) → start_of custom c root ≡ Err e → WhyNot custom c root (fault.Replay e)
  Wrong : (start : Start) (e : WalkFault) → start_of custom c root ≡ Ok start → areas_listed c root ≡ Err e → WhyNot custom c root (fault.Walk e)
  Changed : (start : Start) (listed : List Listed) (name : BlockName) → start_of custom c root ≡ Ok start → areas_listed c root ≡ Ok listed
      → IsLeastChanged custom (splits_of start.records) (Some name) → WhyNot custom c root (fault.NotRestartable name)

-- what was checked and listed is this
pub record IsBegun (custom : Option Extension) (c : Contents) (root : PathValue) (begun : Beginning) : Type 0 where
  pub start : Start
  pub may : MayBegin custom c root start begun.listed
  pub is : IsStart start begun.checked

-- the answer is what a replay begins from, or why it isn't begun; or a fault of the device, or want of memory
abbrev pub Begins : Option Extension → Contents → PathValue → Result Beginning RestartFault → Type 0
Begins custom c root result = MatchResult result (IsBegun custom c root) (λ e. IsFree e ⊎ WhyNot custom c root e)
