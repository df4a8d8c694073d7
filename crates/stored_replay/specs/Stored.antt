-- What the mark of a replay at a cluster's root tells, or why it isn't taken up. Own: "A replay that can be started again".
use Rattle.std.specs.Prelude.{◌≡◌, ◌⊎◌, ℕ, List, drop, Option, None, Some, Result, Ok, Err, MatchResult, option_map}
use Rattle.cluster_tree.specs.Causes.{given, unless}
use Rattle.cluster_tree.specs.Contents.{Contents}
use Rattle.cluster_tree.specs.PathValue.{PathValue}
use Rattle.replay_list.specs.Laws.{IsListOf}
use Rattle.replay_list.specs.Mark.{mark_told}
use Rattle.replay_list.specs.Reading.{listed_in}
use Rattle.replay_list.specs.declared.listed.Listed.{Listed}
use Rattle.replay_list.specs.declared.mark.ReplayMark.{ReplayMark}
use Rattle.replay_list.specs.declared.mark.ReplayMark.TheVariants.{Version1, NotComplete, Complete, Ended}
use Rattle.stored_replay.specs.Faults.{IsFree, told_by}
use Rattle.stored_replay.specs.Marks.{mark_at}
use Rattle.stored_replay.specs.Shadows.{first_lost}
use Rattle.stored_replay.specs.declared.fault.StoredReplayFault.{StoredReplayFault}
use Rattle.stored_replay.specs.declared.fault.StoredReplayFault.TheVariants as fault
use Rattle.stored_replay.specs.declared.stored.StoredReplay.{StoredReplay}
use Rattle.stored_replay.specs.declared.stored.StoredReplay.TheVariants as stored

-- no replay was begun, or only the laying of its mark; one was begun, before which this stood; or one had ended
pub data Told : Type 0 where
  NotBegun : Told
  Begun : List Listed → Told
  HadEnded : Told

-- what the list in a mark says, or the root with the first line at fault
abbrev pub or_bad : PathValue → Result (List Listed) ℕ → Result (List Listed) StoredReplayFault
or_bad root (Ok listed) = Ok listed
or_bad root (Err number) = Err (fault.BadPlan root number)

-- in the bytes of a whole mark, from byte 18 on
abbrev pub list_in : PathValue → List ℕ → Result (List Listed) StoredReplayFault
list_in root bytes = or_bad root (listed_in root (drop 18 bytes))

-- a replay that was begun, where all copies are there
abbrev pub with_copies : Contents → PathValue → List Listed → Result Told StoredReplayFault
with_copies c root listed = unless (option_map fault.ShadowDiffers (first_lost c root 0 listed)) (Ok (Begun listed))

-- by what a mark of these bytes is; one of version 1 was refused before
abbrev pub told_as : Contents → PathValue → List ℕ → ReplayMark → Result Told StoredReplayFault
told_as c root bytes Version1 = Ok NotBegun
told_as c root bytes NotComplete = Ok NotBegun
told_as c root bytes Complete = given (list_in root bytes) (with_copies c root)
told_as c root bytes Ended = given (list_in root bytes) (λ listed. Ok HadEnded)

abbrev pub told_in : Contents → PathValue → Option (List ℕ) → Result Told StoredReplayFault
told_in c root None = Ok NotBegun
told_in c root (Some bytes) = told_as c root bytes (mark_told bytes)

-- The first point that refuses decides: first of all the marks at the root.
abbrev pub told_of : Contents → PathValue → Result Told StoredReplayFault
told_of c root = given (told_by (mark_at c root)) (told_in c root)

-- what is told, as a definition's value
abbrev pub told : StoredReplay → Told
told stored.NotBegun = NotBegun
told (stored.Begun listed) = Begun listed.items
told stored.HadEnded = HadEnded

-- the answer is the one that is meant, or a fault of the device, or want of memory
abbrev pub Tells : Result Told StoredReplayFault → Result StoredReplay StoredReplayFault → Type 0
Tells meant result = MatchResult result (λ found. meant ≡ Ok (told found)) (λ e. IsFree e ⊎ (meant ≡ Err e))

-- what stood before is a list below the root
abbrev pub IsTold : PathValue → StoredReplay → Type 0
IsTold root stored.NotBegun = Unit {0}
IsTold root (stored.Begun listed) = IsListOf root listed.items
IsTold root stored.HadEnded = Unit {0}
