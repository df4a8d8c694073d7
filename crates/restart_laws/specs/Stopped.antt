-- A replay that was begun, what a stop left of it, and how it ends that is begun again. Own: "A replay that can be started again",
-- "A replay that is begun again".
use Rattle.std.specs.Prelude.{◌≡◌, ℕ, true, false, List, Option, Result, Ok, Err}
use Rattle.alike_clusters.specs.Clusters.{AlikeClusters}
use Rattle.block_refs.specs.declared.names.BlockName.{BlockName}
use Rattle.cluster_tree.specs.Contents.{Contents, IsTree, entry_at}
use Rattle.cluster_tree.specs.PathValue.{PathValue, below}
use Rattle.file_effects.specs.Touched.{IsOfMain}
use Rattle.file_walk.specs.Walk.{HasParts}
use Rattle.replay_copies.specs.Ended.{IsGone, StandsLaid}
use Rattle.replay_copies.specs.Laid.{is_laid_at}
use Rattle.replay_core.specs.Replayed.{After}
use Rattle.replay_core.specs.Sparing.{HasPage}
use Rattle.replay_core.specs.Under.{replayed_under}
use Rattle.replay_core.specs.declared.outcome.Replayed.{Replayed as Count}
use Rattle.replay_laws.specs.Log.{HoldsBytes}
use Rattle.replay_laws.specs.Whole.{AreWhole}
use Rattle.replay_list.specs.Laws.{IsListOf}
use Rattle.replay_list.specs.declared.listed.Listed.{Listed}
use Rattle.replay_restart.specs.Meant.{taken_of}
use Rattle.replay_start.specs.Checked.{Start}
use Rattle.replay_start.specs.declared.fault.ReplayFault.{ReplayFault}
use Rattle.replay_world.specs.Touched.{touched_by}
use Rattle.replayed_bytes.specs.Bytes.{HaveSameFiles}
use Rattle.restart_start.specs.Beginning.{MayBegin, without_own}
use Rattle.restored_laws.specs.Back.{IsInMain, SameBeside}
use Rattle.rmgr_hooks.specs.Custom.{Extension}
use Rattle.stored_replay.specs.Stored.{NotBegun}

-- ---- a replay that was begun

-- In these contents no replay was begun, and of them one passed its checks, with this start and this list; with its mark, whose second gate isn't open,
-- and its copies they are those.
pub record WasBegun (custom : Option Extension) (root : PathValue) (s : Start) (listed : List Listed) (c d : Contents) : Type 0 where
  pub tree : IsTree c
  pub proper : HasParts c root
  pub anew : taken_of c root ≡ Ok NotBegun
  pub may : MayBegin custom (without_own c root) root s listed
  pub list : IsListOf root listed
  pub laid_tree : IsTree d
  pub laid : StandsLaid root listed c d

-- a cluster that servers can have left: no fork has a gap, no file of a main fork has more blocks than it may, and the files of the log hold bytes
pub record IsServed (root : PathValue) (per_file : ℕ) (c : Contents) : Type 0 where
  pub whole : AreWhole root per_file c
  pub bounded : AlikeClusters per_file c root c root
  pub bytes : HoldsBytes c root

-- ---- a stop

-- What stops may leave where a log is replayed over contents with a mark and copies, and where of that what stood there is brought back: all but
-- what is at or below the areas and the label is as it was, so the mark and the copies too; and each block in a file of a main fork that no record of the
-- log touches has the page that it had.
pub record IsStoppedIn (custom : Option Extension) (root : PathValue) (s : Start) (d x : Contents) : Type 0 where
  pub beside : SameBeside root d x
  pub blocks : (name : BlockName) (page : List ℕ) → IsOfMain name → IsInMain s.control.relseg name → touched_by custom s.records name ≡ false
      → HasPage root s.control.relseg name page d → HasPage root s.control.relseg name page x

-- What a further stop may leave of what such stops left: all but what is at or below the areas and the label is as it was; and each such block that
-- has its page in both has it still.
pub record IsStoppedOn (custom : Option Extension) (root : PathValue) (s : Start) (d x y : Contents) : Type 0 where
  pub beside : SameBeside root x y
  pub blocks : (name : BlockName) (page : List ℕ) → IsOfMain name → IsInMain s.control.relseg name → touched_by custom s.records name ≡ false
      → HasPage root s.control.relseg name page d → HasPage root s.control.relseg name page x → HasPage root s.control.relseg name page y

-- the mark and the copies are as they were
abbrev pub SameLaid : PathValue → (old new : Contents) → Type 0
SameLaid root old new = (path : PathValue) → is_laid_at root path ≡ true → entry_at new path ≡ entry_at old path

-- ---- two ends

-- two replays left the same at each path below the root, of a file the same bytes, and tell the same
pub record AreSameEnd (root : PathValue) (a b : After) : Type 0 where
  pub files : HaveSameFiles a.files root b.files root
  pub records : a.records ≡ b.records
  pub end : a.end ≡ b.end
  pub tli : a.tli ≡ b.tli

-- both end so, or neither ends
abbrev pub EndAsOne : PathValue → Result After ReplayFault → Result After ReplayFault → Type 0
EndAsOne root (Ok a) (Ok b) = AreSameEnd root a b
EndAsOne root (Ok a) (Err f) = ⊥
EndAsOne root (Err e) (Ok b) = ⊥
EndAsOne root (Err e) (Err f) = Unit {0}

-- ---- what is left at last

-- below the root the mark and the copies are gone, and all else is as in these contents
pub record IsClearedBelow (root : PathValue) (files new : Contents) : Type 0 where
  pub gone : IsGone root new
  pub elsewhere : (parts : List (List ℕ)) → is_laid_at root (below root parts) ≡ false → entry_at new (below root parts) ≡ entry_at files (below root parts)

-- below the root this is what the replay over those contents would leave that isn't stopped, with mark and copies removed
pub record IsLeftBelow (custom : Option Extension) (root : PathValue) (s : Start) (d new : Contents) : Type 0 where
  pub after : After
  pub is : replayed_under custom root s d ≡ Ok after
  pub files : IsClearedBelow root after.files new

-- two runs leave the same at each path below the root, of a file the same bytes, and tell the same
pub record AreOneRun (root : PathValue) (new other : Contents) (count told : Count) : Type 0 where
  pub files : HaveSameFiles new root other root
  pub records : count.records ≡ told.records
  pub end : count.end.0 ≡ told.end.0
  pub tli : count.tli ≡ told.tli
