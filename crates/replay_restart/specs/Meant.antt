-- What a replay that can be started again does, by what its mark tells. Own: "A replay that can be started again".
use Rattle.std.specs.Prelude.{◌≡◌, ℕ, List, Option, None, Some, Result, Ok, Err}
use Rattle.cluster_tree.specs.Contents.{Contents}
use Rattle.cluster_tree.specs.PathValue.{PathValue}
use Rattle.cluster_tree.specs.declared.file_fault.FileFault.{FileFault}
use Rattle.file_edits.specs.Clearing.{tree_removed}
use Rattle.replay_copies.specs.Ended.{IsGone}
use Rattle.replay_copies.specs.Laid.{IsLaid, SameElsewhere}
use Rattle.replay_core.specs.Replayed.{After}
use Rattle.replay_core.specs.Under.{replayed_under}
use Rattle.replay_core.specs.declared.outcome.Replayed.{Replayed as Count}
use Rattle.replay_list.specs.Laws.{IsListOf}
use Rattle.replay_list.specs.declared.listed.Listed.{Listed}
use Rattle.replay_restore.specs.Freed.{IsRefusal}
use Rattle.replay_restore.specs.Loose.{loose_line}
use Rattle.replay_restore.specs.Restored.{CanRestore, IsRestored}
use Rattle.replay_start.specs.Checked.{Start}
use Rattle.replay_start.specs.declared.fault.ReplayFault.{ReplayFault}
use Rattle.restart_start.specs.Beginning.{MayBegin, WhyNot, without_own}
use Rattle.restart_start.specs.declared.fault.RestartFault.{RestartFault as StartFault}
use Rattle.rmgr_hooks.specs.Custom.{Extension}
use Rattle.stored_replay.specs.Shadows.{shadow_folder}
use Rattle.stored_replay.specs.Stored.{Told, NotBegun, Begun, HadEnded, told_of}
use Rattle.stored_replay.specs.declared.fault.StoredReplayFault.{StoredReplayFault}
use Rattle.stored_replay.specs.declared.stored.StoredReplay.{StoredReplay}
use Rattle.stored_replay.specs.declared.stored.StoredReplay.TheVariants as stored
use Rattle.replay_restart.specs.Faults.{of_files, of_start, of_stored}
use Rattle.replay_restart.specs.declared.fault.RestartFault.{RestartFault}
use Rattle.replay_restart.specs.declared.fault.RestartFault.TheVariants as fault
use Rattle.replay_restart.specs.declared.outcome.Restarted.{Restarted}
use Rattle.replay_restart.specs.declared.outcome.Restarted.TheVariants as told

-- ---- what its mark tells

-- a list whose first line at fault is this isn't taken up
abbrev pub or_loose : PathValue → List Listed → Option ℕ → Result Told RestartFault
or_loose root listed None = Ok (Begun listed)
or_loose root listed (Some number) = Err (fault.BadPlan root number)

-- what was begun is taken up where each line of its list is at its place
abbrev pub taken_up : PathValue → Result Told StoredReplayFault → Result Told RestartFault
taken_up root (Ok NotBegun) = Ok NotBegun
taken_up root (Ok (Begun listed)) = or_loose root listed (loose_line root listed)
taken_up root (Ok HadEnded) = Ok HadEnded
taken_up root (Err e) = Err (of_stored e)

-- what the mark at a root tells, or the first point for which it isn't taken up
abbrev pub taken_of : Contents → PathValue → Result Told RestartFault
taken_of c root = taken_up root (told_of c root)

-- what was begun can be brought back
abbrev pub CanGoOn : PathValue → Contents → StoredReplay → Type 0
CanGoOn root c stored.NotBegun = Unit {0}
CanGoOn root c (stored.Begun listed) = CanRestore root listed.items c
CanGoOn root c stored.HadEnded = Unit {0}

-- ---- over what it replays

-- Where no replay was begun, the log is replayed over the cluster with the mark and the copies laid in it; where one was, over the cluster with what
-- stood before brought back. Each is checked first, with its own mark unseen.
pub data IsOver (custom : Option Extension) (c : Contents) (root : PathValue) : Start → Contents → Type 0 where
  Anew : {s : Start} {d : Contents} (listed : List Listed) → taken_of c root ≡ Ok NotBegun → MayBegin custom (without_own c root) root s listed → IsListOf root listed
      → IsLaid root listed c d → IsOver custom c root s d
  Again : {s : Start} {d : Contents} (listed again : List Listed) → taken_of c root ≡ Ok (Begun listed) → IsRestored root listed c d → MayBegin custom (without_own d root) root s again
      → IsOver custom c root s d

-- ---- what it leaves

-- the mark and the copies are gone, and all else is as in these contents
pub record IsCleared (root : PathValue) (files new : Contents) : Type 0 where
  pub gone : IsGone root new
  pub elsewhere : SameElsewhere root files new

-- of what was replayed this is told
pub record Tells (after : After) (count : Count) : Type 0 where
  pub records : count.records ≡ after.records
  pub end : count.end.0 ≡ after.end
  pub tli : count.tli ≡ after.tli

-- over contents with its mark and copies a replay of this start leaves these, and tells this
pub record IsLeftOver (custom : Option Extension) (root : PathValue) (s : Start) (d new : Contents) (count : Count) : Type 0 where
  pub after : After
  pub is : replayed_under custom root s d ≡ Ok after
  pub tells : Tells after count
  pub files : IsCleared root after.files new

-- a replay that is done leaves these contents; where one had ended before, those without its mark and copies
pub data IsLeftBy (custom : Option Extension) (c : Contents) (root : PathValue) (new : Contents) : Restarted → Type 0 where
  WasReplayed : {count : Count} (s : Start) (d : Contents) → IsOver custom c root s d → IsLeftOver custom root s d new count → IsLeftBy custom c root new (told.Replayed count)
  WasEnded : taken_of c root ≡ Ok HadEnded → IsCleared root c new → IsLeftBy custom c root new told.HadEnded

-- ---- and why it isn't done

-- over contents with its mark and copies: a record, or a page that is missing; or the folder of copies can't be removed
pub data WhyOver (custom : Option Extension) (root : PathValue) (s : Start) (d : Contents) : RestartFault → Type 0 where
  NotReplayed : (e : ReplayFault) → replayed_under custom root s d ≡ Err e → WhyOver custom root s d (fault.Replay e)
  NotCleared : (after : After) (e : FileFault) → replayed_under custom root s d ≡ Ok after → tree_removed (shadow_folder root) after.files ≡ Err e → WhyOver custom root s d (of_files e)

-- before the first change: what the mark tells isn't taken up, or no replay was begun and none may be
pub data WhyFirst (custom : Option Extension) (c : Contents) (root : PathValue) : RestartFault → Type 0 where
  NotTaken : (e : RestartFault) → taken_of c root ≡ Err e → WhyFirst custom c root e
  NotBegins : (e : StartFault) → taken_of c root ≡ Ok NotBegun → WhyNot custom (without_own c root) root e → WhyFirst custom c root (of_start e)

-- The first point that refuses. Behind the first change it may be: what stands at the folder of copies, which can't be removed; what is in the way of
-- what is brought back; what refuses the replay of that; and then what breaks it off.
pub data WhyEnded (custom : Option Extension) (c : Contents) (root : PathValue) : RestartFault → Type 0 where
  First : (e : RestartFault) → WhyFirst custom c root e → WhyEnded custom c root e
  NotLaid : (s : Start) (listed : List Listed) (e : FileFault) → taken_of c root ≡ Ok NotBegun → MayBegin custom (without_own c root) root s listed
      → tree_removed (shadow_folder root) c ≡ Err e → WhyEnded custom c root (of_files e)
  NotBack : (listed : List Listed) (e : FileFault) → taken_of c root ≡ Ok (Begun listed) → IsRefusal root c e → WhyEnded custom c root (of_files e)
  NotAgain : (listed : List Listed) (d : Contents) (e : StartFault) → taken_of c root ≡ Ok (Begun listed) → IsRestored root listed c d → WhyNot custom (without_own d root) root e
      → WhyEnded custom c root (of_start e)
  Over : (s : Start) (d : Contents) (e : RestartFault) → IsOver custom c root s d → WhyOver custom root s d e → WhyEnded custom c root e
  NotEnded : (e : FileFault) → taken_of c root ≡ Ok HadEnded → tree_removed (shadow_folder root) c ≡ Err e → WhyEnded custom c root (of_files e)
