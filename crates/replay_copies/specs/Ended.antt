-- The end of a replay's mark and copies, and what a stop leaves of it. Own: "What a stop may leave", "The shadows of a replay".
use Rattle.std.specs.Prelude.{◌≡◌, ◌≢◌, ◌⊎◌, ℕ, ◌<◌, true, List, [], ◌∷◌, length, None, Some, OnOk, Result, IfErr}
use Rattle.cluster_tree.specs.Apart.{is_held}
use Rattle.cluster_tree.specs.Contents.{Contents, FileEntry, entry_at}
use Rattle.cluster_tree.specs.PathValue.{PathValue}
use Rattle.cluster_tree.specs.Run.{Moment}
use Rattle.cluster_tree.specs.Stops.{LeavesOnly}
use Rattle.cluster_tree.specs.Tree.{bytes_at}
use Rattle.cluster_tree.specs.declared.file_fault.FileFault.{FileFault}
use Rattle.gated_marks.specs.Gates.{plus, whole_mark}
use Rattle.layout.specs.Splice.{splice}
use Rattle.marked_runs.specs.Moments.{StandsSynced}
use Rattle.replay_copies.specs.Left.{IsKept, LeavesFile}
use Rattle.replay_copies.specs.Laid.{HasCopies, SameElsewhere, is_laid_at, mark_head, mark_of, whole_gate}
use Rattle.replay_list.specs.Text.{list_text}
use Rattle.replay_list.specs.declared.listed.Listed.{Listed}
use Rattle.stored_replay.specs.Shadows.{shadow_folder}

-- the second gate: the replay has ended
abbrev pub ended_gate : ℕ
ended_gate = 16

-- the mark is a file of more than its head
abbrev pub HasMark : PathValue → Contents → Type 0
HasMark root c = length mark_head < length (bytes_at c (mark_of root))

-- the mark's bytes with this one in the place of the second gate
abbrev pub with_gate : PathValue → Contents → (byte : ℕ) → List ℕ
with_gate root c byte = splice (bytes_at c (mark_of root)) ended_gate (byte ∷ [])

-- The mark stands whole over the list, its second gate not open, the copies are there, and all else is as it was: as it is laid, but that a stop may have
-- left any other byte in the place of that gate.
pub record StandsLaid (root : PathValue) (listed : List Listed) (old new : Contents) : Type 0 where
  pub byte : ℕ
  pub shut : byte ≢ plus
  pub mark : entry_at new (mark_of root) ≡ Some (FileEntry (splice (whole_mark mark_head whole_gate (list_text root listed)) ended_gate (byte ∷ [])))
  pub copies : HasCopies root listed old new
  pub elsewhere : SameElsewhere root old new

-- nothing stands at the mark, nor at the folder of copies or below it
abbrev pub IsGone : PathValue → Contents → Type 0
IsGone root c = (path : PathValue) → is_laid_at root path ≡ true → entry_at c path ≡ None

-- the copies are as they were
abbrev pub SameCopies : PathValue → (old new : Contents) → Type 0
SameCopies root old new = (path : PathValue) → is_held (shadow_folder root) path ≡ true → entry_at new path ≡ entry_at old path

-- while mark and copies are removed: all but the copies is as it was, or nothing is left of both
pub record IsClearLeft (root : PathValue) (old new : Contents) : Type 0 where
  pub elsewhere : SameElsewhere root old new
  pub told : (entry_at new (mark_of root) ≡ entry_at old (mark_of root)) ⊎ IsGone root new

-- the mark stands as it was but for its second gate, and unless that is open the copies are as they were
pub record IsStill (root : PathValue) (old new : Contents) : Type 0 where
  pub byte : ℕ
  pub mark : entry_at new (mark_of root) ≡ Some (FileEntry (with_gate root old byte))
  pub copies : byte ≢ plus → SameCopies root old new

-- while a replay is ended: so, or nothing is left of both
pub record IsEndLeft (root : PathValue) (old new : Contents) : Type 0 where
  pub elsewhere : SameElsewhere root old new
  pub told : IsStill root old new ⊎ IsGone root new

-- nothing is left of both, and that is synced
pub record StandsGone (root : PathValue) (moment : Moment) : Type 0 where
  pub gone : IsGone root moment.state.contents
  pub synced : StandsSynced moment.state.contents moment

-- the removal of both, from the first moment to the last
pub record Clears (root : PathValue) (first last : Moment) (result : Result (Unit {0}) FileFault) : Type 0 where
  pub elsewhere : SameElsewhere root first.state.contents last.state.contents
  pub done : OnOk result (StandsGone root last)
  pub refused : IfErr result (IsKept root first.state.contents)
  pub stands : IfErr result (LeavesFile root last.state.contents)
  pub left : StandsSynced first.state.contents first → LeavesOnly (IsClearLeft root first.state.contents) first.stops last.stops

-- the end of a replay, from the first moment to the last
pub record Ends (root : PathValue) (first last : Moment) (result : Result (Unit {0}) FileFault) : Type 0 where
  pub elsewhere : SameElsewhere root first.state.contents last.state.contents
  pub done : OnOk result (StandsGone root last)
  pub refused : IfErr result (IsKept root first.state.contents)
  pub stands : IfErr result (LeavesFile root last.state.contents)
  pub left : StandsSynced first.state.contents first → LeavesOnly (IsEndLeft root first.state.contents) first.stops last.stops
