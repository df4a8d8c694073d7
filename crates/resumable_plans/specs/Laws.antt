-- That the plans of rewinds can be resumed. Own: "A rewind that is resumed".
use Rattle.std.specs.Prelude.{◌≡◌, ℕ, false, List, None}
use Rattle.std.specs.List.{list_any}
use Rattle.cluster_tree.specs.Change.{all_changed, first_refusal, is_on}
use Rattle.cluster_tree.specs.Contents.{Contents, entry_at}
use Rattle.cluster_tree.specs.PathValue.{Holds, PathValue, below}
use Rattle.control_file.specs.declared.control.Control.{Control}
use Rattle.backup_label.specs.declared.label.Label.{Label}
use Rattle.file_walk.specs.declared.pair.Pair.{Pair}
use Rattle.cluster_tree.specs.Tree.{bytes_at}
use Rattle.gated_marks.specs.Gates.{IsComplete}
use Rattle.rewound_tree.specs.Rewound.{rewound}
use Rattle.rewind_writes.specs.Plan.{IsResumable, IsUnderPlan, mark_bytes, mark_gate, mark_head}
use Rattle.rewind_writes.specs.declared.plan.Plan.{Plan}
use Rattle.rewind_plan.specs.PlanOf.{IsPlanOf, rewinding}
use Rattle.rewind_plan.specs.Planned.{Between}
use Rattle.rewind_plan.specs.Sides.{Sides}
use Rattle.resumed_laws.specs.Between.{IsBetween}
use Rattle.resumed_laws.specs.Resumed.{resumed_changes}
use Rattle.resumed_laws.specs.Sound.{IsInGroups, IsPlanSound, with_whole_mark}
use Rattle.resumed_laws.specs.Stopped.{IsLeft}

-- the changes of a plan of two clusters, side by side, are in groups
abbrev pub PlansAreInGroups : Type 0
PlansAreInGroups = (c : Contents) (w : Between) (pairs : List Pair) (control : Control) (label : Label) (plan : Plan) →
    Sides c w pairs → IsPlanOf w pairs control label plan → IsInGroups plan

-- so it is sound once its mark stands, whatever text that holds
abbrev pub PlansAreSound : Type 0
PlansAreSound = (c : Contents) (text : List ℕ) (w : Between) (pairs : List Pair) (control : Control) (label : Label) (plan : Plan) →
    Sides c w pairs → IsPlanOf w pairs control label plan → IsPlanSound c (with_whole_mark c text plan) plan

-- However often a rewind was stopped under its mark, nothing refuses the next resume, and where that isn't stopped the tree below
-- the target's root is the rewound one, path by path.
abbrev pub ResumesLeaveTheRewoundTree : Type 0
ResumesLeaveTheRewoundTree = (c i : Contents) (text : List ℕ) (w : Between) (pairs : List Pair) (control : Control) (label : Label) (plan : Plan) →
    Sides c w pairs → IsPlanOf w pairs control label plan → IsLeft c (with_whole_mark c text plan) plan i →
    (first_refusal i (resumed_changes i plan) ≡ None)
    × ((parts : List (List ℕ)) → entry_at (all_changed i (resumed_changes i plan)) (below w.target parts) ≡ rewound (rewinding c w control label) parts)

-- outside the target's root all is as it was before the rewind, and no change of a resume is there
abbrev pub ResumesStayInTheTarget : Type 0
ResumesStayInTheTarget = (c i : Contents) (text : List ℕ) (w : Between) (pairs : List Pair) (control : Control) (label : Label) (plan : Plan) (path : PathValue) →
    Sides c w pairs → IsPlanOf w pairs control label plan → IsLeft c (with_whole_mark c text plan) plan i → (Holds w.target path → ⊥) →
    (entry_at i path ≡ entry_at c path) × (list_any (is_on path) (resumed_changes i plan) ≡ false)

-- What is under the mark is between the start and the end of the rewind, and what a stop of its first run may leave.
abbrev pub MarkedStopsAreBetween : Type 0
MarkedStopsAreBetween = (c i : Contents) (text : List ℕ) (w : Between) (pairs : List Pair) (control : Control) (label : Label) (plan : Plan) →
    Sides c w pairs → IsPlanOf w pairs control label plan → IsUnderPlan c text plan i →
    IsBetween (with_whole_mark c text plan) plan i × IsLeft c (with_whole_mark c text plan) plan i

-- So where a stop of the first run, begun on synced contents, left a mark that reads as complete: it holds the text that was given,
-- nothing refuses the resume, and where that isn't stopped the tree below the target's root is the rewound one, path by path.
abbrev pub StoppedPlansAreResumed : Type 0
StoppedPlansAreResumed = (c i : Contents) (text : List ℕ) (w : Between) (pairs : List Pair) (control : Control) (label : Label) (plan : Plan) →
    Sides c w pairs → IsPlanOf w pairs control label plan → IsResumable c text plan i → IsComplete mark_head mark_gate (bytes_at i plan.mark) →
    (bytes_at i plan.mark ≡ mark_bytes text)
    × (first_refusal i (resumed_changes i plan) ≡ None)
    × ((parts : List (List ℕ)) → entry_at (all_changed i (resumed_changes i plan)) (below w.target parts) ≡ rewound (rewinding c w control label) parts)
