-- What follows of whole runs, for callers. Own: "A rewind that is resumed".
use Rattle.std.specs.Prelude.{◌≡◌, ℕ, ◌⊎◌, Bool, true, false, List, [], ◌∷◌, ◌++◌, None}
use Rattle.std.specs.FinMap.{get, remove}
use Rattle.std.specs.List.{list_any}
use Rattle.cluster_tree.specs.Change.{Change, Syncs, all_changed, first_refusal, is_on}
use Rattle.cluster_tree.specs.Contents.{Contents}
use Rattle.cluster_tree.specs.PathValue.{PathValue}
use Rattle.cluster_tree.specs.Run.{Course, Moment}
use Rattle.cluster_tree.specs.Stops.{LeavesOnly, MayBeLeft}
use Rattle.marked_runs.specs.Moments.{StandsSynced}
use Rattle.marked_runs.specs.Runs.{Runs, ended}
use Rattle.rewind_writes.specs.Plan.{IsFound, body_changes, plan_changes}
use Rattle.rewind_writes.specs.declared.plan.Plan.{Plan}
use Rattle.resumed_laws.specs.Between.{IsBetween}
use Rattle.resumed_laws.specs.Resumed.{resumed_body, resumed_changes}
use Rattle.resumed_laws.specs.Sound.{IsInGroups, IsPlanSound, with_whole_mark}

-- a plan in groups, of which nothing refuses the changes in turn under a mark of any text and which finds what its steps read, is
-- sound once the mark stands whole
abbrev pub MarkedPlansAreSound : Type 0
MarkedPlansAreSound = (c : Contents) (text : List ℕ) (plan : Plan) → IsInGroups plan → IsFound c text plan → first_refusal c (plan_changes c text plan) ≡ None
    → IsPlanSound c (with_whole_mark c text plan) plan

-- changes that end in a sync and are done, as the making of the mark and the first sync of a resume, leave nothing else to a stop
abbrev pub SyncedRunsStand : Type 0
SyncedRunsStand = (changes : List Change) (a b : Moment) → Course a b → Runs (changes ++ Syncs ∷ []) a.state.calls b.state.calls a.state.contents b.state.contents true
    → StandsSynced (all_changed a.state.contents (changes ++ Syncs ∷ [])) b

-- changes from a synced start on, however far they ran: what stands, and what a stop at any moment leaves, is between start and end
abbrev pub RunsStayBetween : Type 0
RunsStayBetween = (found c : Contents) (plan : Plan) (a b : Moment) (done : Bool) → IsPlanSound found c plan → StandsSynced c a → Course a b
    → Runs (body_changes found plan) a.state.calls b.state.calls a.state.contents b.state.contents done
    → IsBetween c plan b.state.contents × LeavesOnly (IsBetween c plan) a.stops b.stops

-- and so it is of a resume, once what the stop left is synced
abbrev pub ResumesStayBetween : Type 0
ResumesStayBetween = (found c i : Contents) (plan : Plan) (a b : Moment) (done : Bool) → IsPlanSound found c plan → IsBetween c plan i → StandsSynced i a → Course a b
    → Runs (resumed_body i plan) a.state.calls b.state.calls a.state.contents b.state.contents done
    → IsBetween c plan b.state.contents × LeavesOnly (IsBetween c plan) a.stops b.stops

-- While the mark is ended a stop leaves what one could have left before, between start and end, or the contents without the mark.
abbrev pub EndsStayBetween : Type 0
EndsStayBetween = (c : Contents) (plan : Plan) (a b : Moment) (done : Bool) → IsBetween c plan a.state.contents → ((d : Contents) → MayBeLeft a.stops d → IsBetween c plan d) → Course a b
    → Runs (ended plan.mark) a.state.calls b.state.calls a.state.contents b.state.contents done
    → LeavesOnly (λ d. IsBetween c plan d ⊎ (d ≡ remove a.state.contents plan.mark)) a.stops b.stops

-- A path that no change of the first run is on, as that of its mark, is as it was, and no change of a resume is on it.
abbrev pub ResumesAreOnTheSamePaths : Type 0
ResumesAreOnTheSamePaths = (found c i : Contents) (plan : Plan) (path : PathValue) → IsPlanSound found c plan → IsBetween c plan i → list_any (is_on path) (body_changes found plan) ≡ false
    → (get i path ≡ get c path) × (list_any (is_on path) (resumed_body i plan) ≡ false)

-- where nothing refuses the end of the mark after the first run, nothing refuses a whole resume, and it leaves what the first run would have left
abbrev pub WholeResumes : Type 0
WholeResumes = (found c i : Contents) (plan : Plan) → IsPlanSound found c plan → IsBetween c plan i → first_refusal c (body_changes found plan ++ ended plan.mark) ≡ None
    → (first_refusal i (resumed_changes i plan) ≡ None) × (all_changed i (resumed_changes i plan) ≡ all_changed c (body_changes found plan ++ ended plan.mark))
