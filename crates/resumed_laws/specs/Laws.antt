-- What follows from the definitions, for callers. Own: "A rewind that is resumed".
use Rattle.std.specs.Prelude.{◌≡◌, None}
use Rattle.cluster_tree.specs.Change.{all_changed, first_refusal}
use Rattle.cluster_tree.specs.Contents.{Contents}
use Rattle.rewind_writes.specs.Plan.{body_changes}
use Rattle.rewind_writes.specs.Steps.{FindAll}
use Rattle.rewind_writes.specs.declared.plan.Plan.{Plan}
use Rattle.resumed_laws.specs.Between.{IsBetween}
use Rattle.resumed_laws.specs.Resumed.{resumed_body}
use Rattle.resumed_laws.specs.Sound.{IsPlanSound}
use Rattle.resumed_laws.specs.Stopped.{IsStopped}

-- however far a rewind ran and however its writes were cut, a stop leaves it between its start and its end
abbrev pub StopsAreBetween : Type 0
StopsAreBetween = (found c i : Contents) (plan : Plan) → IsPlanSound found c plan → IsStopped c (body_changes found plan) i → IsBetween c plan i

-- and so does a stop of a resume
abbrev pub ResumedStopsAreBetween : Type 0
ResumedStopsAreBetween = (found c i d : Contents) (plan : Plan) → IsPlanSound found c plan → IsBetween c plan i → IsStopped i (resumed_body i plan) d → IsBetween c plan d

-- from there nothing refuses the resume
abbrev pub ResumesAreNotRefused : Type 0
ResumesAreNotRefused = (found c i : Contents) (plan : Plan) → IsPlanSound found c plan → IsBetween c plan i → first_refusal i (resumed_body i plan) ≡ None

-- what it reads is there, and no change of it is on that
abbrev pub ResumesFindWhatTheyRead : Type 0
ResumesFindWhatTheyRead = (found c i : Contents) (plan : Plan) → IsPlanSound found c plan → IsBetween c plan i → FindAll i (resumed_body i plan) plan.steps.items

-- and it leaves what the first run would have left
abbrev pub ResumesLeaveTheSame : Type 0
ResumesLeaveTheSame = (found c i : Contents) (plan : Plan) → IsPlanSound found c plan → IsBetween c plan i
    → all_changed i (resumed_body i plan) ≡ all_changed c (body_changes found plan)
