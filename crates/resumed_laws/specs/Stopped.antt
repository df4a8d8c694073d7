-- What stops may leave of a rewind, however often it was resumed. Own: "A rewind that is resumed".
use Rattle.std.specs.Prelude.{◌≡◌, List, ◌++◌, map, None}
use Rattle.cluster_tree.specs.Change.{Change, all_changed, call_of, first_refusal}
use Rattle.cluster_tree.specs.Contents.{Contents}
use Rattle.cluster_tree.specs.Joined.{joined_writes}
use Rattle.cluster_tree.specs.Stops.{IsImage}
use Rattle.cluster_tree.specs.declared.tree.ChangeCall.{ChangeCall}
use Rattle.marked_runs.specs.Runs.{ended}
use Rattle.rewind_writes.specs.Plan.{body_changes}
use Rattle.rewind_writes.specs.declared.plan.Plan.{Plan}
use Rattle.resumed_laws.specs.Resumed.{resumed_body, resumed_changes}
use Rattle.resumed_laws.specs.Sound.{IsPlanSound}

-- what a stop may leave of changes from synced contents on: the calls of the first of them were made, however writes were cut
pub record IsStopped (c : Contents) (changes : List Change) (i : Contents) : Type 0 where
  pub made : List ChangeCall
  pub rest : List ChangeCall
  pub joins : joined_writes (made ++ rest) ≡ joined_writes (map call_of changes)
  pub image : IsImage c made i

-- what a stop of the first run may leave, and one of each resume from what the stop before it left
pub data IsLeft (found c : Contents) (plan : Plan) : Contents → Type 0 where
  FirstStop : {i : Contents} → IsStopped c (body_changes found plan) i → IsLeft found c plan i
  NextStop : {i d : Contents} → IsLeft found c plan i → IsStopped i (resumed_body i plan) d → IsLeft found c plan d

-- However often a rewind was stopped, nothing refuses the next resume, and where it isn't stopped it leaves what the first run would
-- have left.
abbrev pub StoppedRewindsEndTheSame : Type 0
StoppedRewindsEndTheSame = (found c i : Contents) (plan : Plan) → IsPlanSound found c plan → first_refusal c (body_changes found plan ++ ended plan.mark) ≡ None → IsLeft found c plan i
    → (first_refusal i (resumed_changes i plan) ≡ None) × (all_changed i (resumed_changes i plan) ≡ all_changed c (body_changes found plan ++ ended plan.mark))
