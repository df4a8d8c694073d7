-- What a stop may leave: between two syncs each changing call may have been carried out in part, or not at all. Own: "What a stop may leave".
use Rattle.std.specs.Prelude.{◌≡◌, ◌⊎◌, List, [], ◌∷◌, ◌++◌, drop, length}
use Rattle.std.specs.FinMap.{empty}
use Rattle.cluster_tree.specs.Contents.{Contents}
use Rattle.cluster_tree.specs.Step.{Step}
use Rattle.cluster_tree.specs.declared.tree.ChangeCall.{ChangeCall}
use Rattle.cluster_tree.specs.declared.tree.ChangeCall.TheVariants.{Write, Cut, MakeFile, MakeFolder, Remove, Sync}

-- the time from one sync to the next: the contents that were synced, and the changing calls since, in order
pub record Epoch : Type 0 where
  pub synced : Contents
  pub pending : List ChangeCall

-- the time since the last sync, and the times before it, in order
pub record Stops : Type 0 where
  pub now : Epoch
  pub past : List Epoch

-- with these contents synced, and no changing call ever made
abbrev pub synced_alone : Contents → Stops
synced_alone c = record { now = record { synced = c; pending = [] }; past = [] }

-- of a new tree, and of one that doesn't tell
abbrev pub no_stops : Stops
no_stops = synced_alone empty

-- with one more call pending
abbrev pub with_pending : ChangeCall → Stops → Stops
with_pending call s = record { now = record { synced = s.now.synced; pending = s.now.pending ++ call ∷ [] }; past = s.past }

-- with these contents synced, and nothing pending
abbrev pub with_synced : Contents → Stops → Stops
with_synced c s = record { now = record { synced = c; pending = [] }; past = s.past ++ s.now ∷ [] }

-- a changing call is pending up to the next sync
abbrev pub stops_after : ChangeCall → Contents → Stops → Stops
stops_after (Write path at n) c s = with_pending (Write path at n) s
stops_after (Cut path size) c s = with_pending (Cut path size) s
stops_after (MakeFile path) c s = with_pending (MakeFile path) s
stops_after (MakeFolder path) c s = with_pending (MakeFolder path) s
stops_after (Remove path) c s = with_pending (Remove path) s
stops_after Sync c s = with_synced c s

-- an image of contents that were synced: what these calls make of them in turn, each whole, in part or not at all
abbrev pub IsImage : Contents → List ChangeCall → Contents → Type 0
IsImage synced [] c = c ≡ synced
IsImage synced (call ∷ calls) c = (d : Contents) × Step call synced d × IsImage d calls c

-- an image of one of these times
abbrev pub HadBeen : List Epoch → Contents → Type 0
HadBeen [] c = ⊥
HadBeen (time ∷ times) c = IsImage time.synced time.pending c ⊎ HadBeen times c

-- what a stop may leave now
abbrev pub MayBeLeft : Stops → Contents → Type 0
MayBeLeft s c = IsImage s.now.synced s.now.pending c

-- what a stop may leave at the second of two moments, or might have left since the last sync before the first
abbrev pub LeftSince : (first s : Stops) → Contents → Type 0
LeftSince first s c = MayBeLeft s c ⊎ HadBeen (drop (length first.past) s.past) c

-- a stop at any moment from the first to the second leaves nothing but what has P
pub record LeavesOnly (P : Contents → Type 0) (first s : Stops) : Type 0 where
  pub each : (c : Contents) → LeftSince first s c → P c
