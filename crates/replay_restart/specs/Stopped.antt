-- What a stop leaves of a replay that can be started again, for the run that starts it again. Own: "A replay that can be started again", "Calls that spare bytes".
use Rattle.std.specs.Prelude.{◌≡◌, ◌⊎◌, ℕ, true, false, List, Option, Ok}
use Rattle.std.specs.List.{list_all}
use Rattle.block_refs.specs.declared.names.BlockName.{BlockName}
use Rattle.cluster_tree.specs.Contents.{Contents, entry_at}
use Rattle.cluster_tree.specs.PathValue.{PathValue}
use Rattle.cluster_tree.specs.Tree.{bytes_at}
use Rattle.file_edits.specs.Sparing.{Piece, Shows}
use Rattle.file_effects.specs.Touched.{IsOfMain}
use Rattle.replay_copies.specs.Ended.{IsClearLeft, IsEndLeft}
use Rattle.replay_copies.specs.Laid.{IsLaid, IsShut, SameElsewhere, mark_of}
use Rattle.replay_core.specs.Replayed.{After}
use Rattle.replay_core.specs.Sparing.{HasPage}
use Rattle.replay_core.specs.Under.{SameBesideReplay, replayed_under}
use Rattle.replay_list.specs.Laws.{IsListOf}
use Rattle.replay_list.specs.declared.listed.Listed.{Listed}
use Rattle.replay_restore.specs.Filled.{is_spared}
use Rattle.replay_restore.specs.Listing.{has_file, is_restored_at}
use Rattle.replay_restore.specs.Restored.{IsRestored}
use Rattle.replay_start.specs.Checked.{Start}
use Rattle.replay_world.specs.Touched.{touched_by}
use Rattle.restart_start.specs.Beginning.{MayBegin, without_own}
use Rattle.rmgr_hooks.specs.Custom.{Extension}
use Rattle.stored_replay.specs.Stored.{Begun, HadEnded, NotBegun}
use Rattle.replay_restart.specs.Meant.{taken_of}

-- ---- under a mark with its copies

-- all but what a replay changes is as it was, the mark and the copies too, and each block of a main fork that no record of the log touches has its page
pub record IsReplaying (custom : Option Extension) (root : PathValue) (s : Start) (d x : Contents) : Type 0 where
  pub beside : SameBesideReplay root d x
  pub blocks : (name : BlockName) (page : List ℕ) → IsOfMain name → touched_by custom s.records name ≡ false → HasPage root s.control.relseg name page d → HasPage root s.control.relseg name page x

-- all records were replayed, which left these files, and of these the mark and the copies are being removed
pub record IsEnding (custom : Option Extension) (root : PathValue) (s : Start) (d x : Contents) : Type 0 where
  pub after : After
  pub is : replayed_under custom root s d ≡ Ok after
  pub replayed : IsReplaying custom root s d after.files
  pub left : IsEndLeft root after.files x

-- while the log is replayed, or behind its last record
abbrev pub IsRunLeft : Option Extension → PathValue → Start → (d x : Contents) → Type 0
IsRunLeft custom root s d x = IsReplaying custom root s d x ⊎ IsEnding custom root s d x

-- what is listed is being brought back: all but what is at or below the areas and the label is as it was, and a piece of a main fork's file,
-- up to its listed size, has its bytes
pub record IsBringingBack (root : PathValue) (listed : List Listed) (c x : Contents) : Type 0 where
  pub beside : (path : PathValue) → is_restored_at root path ≡ false → entry_at x path ≡ entry_at c path
  pub pieces : (piece : Piece) (bytes : List ℕ) → has_file listed piece.path ≡ true → list_all (is_spared piece) listed ≡ true → Shows piece bytes c → Shows piece bytes x

-- ---- of a whole run

-- A stop of a run over these contents left them as they were. Or no replay was begun in them: the mark and the copies were being laid, so the mark holds no
-- whole list, and all but both is as it was; or the log was being replayed under both. Or one was begun: what its mark lists was being brought back; or the
-- log was being replayed over that. Or one had ended: its mark and its copies were being removed.
pub data IsStopped (custom : Option Extension) (root : PathValue) (c : Contents) : Contents → Type 0 where
  Untouched : {x : Contents} → x ≡ c → IsStopped custom root c x
  Laying : {x : Contents} (s : Start) (listed : List Listed) → taken_of c root ≡ Ok NotBegun → MayBegin custom (without_own c root) root s listed → SameElsewhere root c x
      → IsShut (bytes_at x (mark_of root)) → IsStopped custom root c x
  Replaying : {x : Contents} (s : Start) (listed : List Listed) (d : Contents) → taken_of c root ≡ Ok NotBegun → MayBegin custom (without_own c root) root s listed
      → IsListOf root listed → IsLaid root listed c d → IsRunLeft custom root s d x → IsStopped custom root c x
  Restoring : {x : Contents} (listed : List Listed) → taken_of c root ≡ Ok (Begun listed) → IsBringingBack root listed c x → IsStopped custom root c x
  ReplayingAgain : {x : Contents} (s : Start) (listed again : List Listed) (b : Contents) → taken_of c root ≡ Ok (Begun listed) → IsRestored root listed c b
      → MayBegin custom (without_own b root) root s again → IsRunLeft custom root s b x → IsStopped custom root c x
  Clearing : {x : Contents} → taken_of c root ≡ Ok HadEnded → IsClearLeft root c x → IsStopped custom root c x
