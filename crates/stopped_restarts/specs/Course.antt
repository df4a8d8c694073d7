-- What stops of runs leave that were begun over the same contents, one after another, and what the run leaves that is done. Own: "A replay that can be
-- started again".
use Rattle.std.specs.Prelude.{◌≡◌, ℕ, false, List, Option, Ok}
use Rattle.cluster_tree.specs.Contents.{Contents, IsTree, entry_at}
use Rattle.cluster_tree.specs.PathValue.{PathValue, below}
use Rattle.cluster_tree.specs.Tree.{bytes_at}
use Rattle.file_walk.specs.Walk.{HasParts}
use Rattle.replay_copies.specs.Laid.{IsShut, SameElsewhere, is_laid_at, mark_of}
use Rattle.replay_core.specs.Replayed.{After}
use Rattle.replay_core.specs.Under.{replayed_under}
use Rattle.replay_list.specs.declared.listed.Listed.{Listed}
use Rattle.replay_restart.specs.Meant.{Tells, taken_of}
use Rattle.replay_restart.specs.declared.outcome.Restarted.{Restarted}
use Rattle.replay_restart.specs.declared.outcome.Restarted.TheVariants as told
use Rattle.replay_start.specs.Checked.{Start, start_of}
use Rattle.restart_laws.specs.Stopped.{IsLeftBelow, IsServed, IsStoppedIn, WasBegun}
use Rattle.restart_start.specs.Beginning.{without_own}
use Rattle.rmgr_hooks.specs.Custom.{Extension}
use Rattle.stored_replay.specs.Stored.{HadEnded, NotBegun}

-- contents in which no replay was begun, of a cluster that servers can have left
pub record IsFirst (custom : Option Extension) (root : PathValue) (c : Contents) : Type 0 where
  pub tree : IsTree c
  pub proper : HasParts c root
  pub anew : taken_of c root ≡ Ok NotBegun
  pub served : (s : Start) → start_of custom (without_own c root) root ≡ Ok s → IsServed root s.control.relseg c

-- below the root stands what the replay over such contents leaves, but for the mark and the copies
pub record IsReplayed (custom : Option Extension) (root : PathValue) (s : Start) (d x : Contents) : Type 0 where
  pub after : After
  pub is : replayed_under custom root s d ≡ Ok after
  pub elsewhere : (parts : List (List ℕ)) → is_laid_at root (below root parts) ≡ false → entry_at x (below root parts) ≡ entry_at after.files (below root parts)

-- What stops may leave of runs that were begun over these contents, each over what the one before it left. None got so far that the next one doesn't begin
-- anew; or what the next one goes on from; or all records were replayed, and the mark tells that; or all is done.
pub data IsLeftByStops (custom : Option Extension) (root : PathValue) (c : Contents) : Contents → Type 0 where
  Unbegun : {x : Contents} → SameElsewhere root c x → IsShut (bytes_at x (mark_of root)) → IsLeftByStops custom root c x
  GoesOn : {x : Contents} (s : Start) (listed : List Listed) (d : Contents) → WasBegun custom root s listed c d → IsStoppedIn custom root s d x → IsLeftByStops custom root c x
  Ended : {x : Contents} (s : Start) (listed : List Listed) (d : Contents) → WasBegun custom root s listed c d → IsReplayed custom root s d x → taken_of x root ≡ Ok HadEnded
      → IsLeftByStops custom root c x
  Finished : {x : Contents} (s : Start) (listed : List Listed) (d : Contents) → WasBegun custom root s listed c d → IsLeftBelow custom root s d x → IsLeftByStops custom root c x

-- of a replay this is told; of one that had ended, that
abbrev pub IsToldOf : After → Restarted → Type 0
IsToldOf after (told.Replayed count) = Tells after count
IsToldOf after told.HadEnded = Unit {0}

-- what one run over these contents leaves below the root, and tells: what the replay over them leaves with mark and copies laid, without both
pub record IsLeftByOne (custom : Option Extension) (root : PathValue) (c new : Contents) (told : Restarted) : Type 0 where
  pub s : Start
  pub listed : List Listed
  pub d : Contents
  pub begun : WasBegun custom root s listed c d
  pub left : IsLeftBelow custom root s d new
  pub tells : IsToldOf left.after told
