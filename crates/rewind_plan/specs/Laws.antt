-- What follows from the definitions, for callers. Own: "The plan of a rewind".
use Rattle.std.specs.Prelude.{◌≡◌, ℕ, false, List, None}
use Rattle.std.specs.List.{list_any}
use Rattle.cluster_tree.specs.Apart.{AreApart}
use Rattle.cluster_tree.specs.Change.{all_changed, first_refusal, is_on}
use Rattle.cluster_tree.specs.Contents.{Contents, IsTree, entry_at}
use Rattle.cluster_tree.specs.PathValue.{below}
use Rattle.control_file.specs.declared.control.Control.{Control}
use Rattle.backup_label.specs.declared.label.Label.{Label}
use Rattle.file_walk.specs.Pairs.{pairs_of}
use Rattle.file_walk.specs.declared.entry.Entry.{Entry}
use Rattle.file_walk.specs.declared.pair.Pair.{Pair}
use Rattle.rewound_tree.specs.Rewound.{rewound}
use Rattle.rewind_writes.specs.Plan.{IsFound, body_changes, plan_changes}
use Rattle.rewind_writes.specs.declared.plan.Plan.{Plan}
use Rattle.rewind_plan.specs.Checks.{first_difference}
use Rattle.rewind_plan.specs.Planned.{Between}
use Rattle.rewind_plan.specs.PlanOf.{IsPlanOf, rewinding}
use Rattle.rewind_plan.specs.Sides.{Sides}
use Rattle.rewind_plan.specs.Walks.{IsWalked}

-- none of a plan's changes is refused in its turn, whatever text its mark holds
abbrev pub PlansAreNotRefused : Type 0
PlansAreNotRefused = (c : Contents) (text : List ℕ) (w : Between) (pairs : List Pair) (control : Control) (label : Label) (plan : Plan) →
    Sides c w pairs → IsPlanOf w pairs control label plan → first_refusal c (plan_changes c text plan) ≡ None

-- and when they are done, the tree below the target's root is the rewound one, path by path
abbrev pub PlansLeaveTheRewoundTree : Type 0
PlansLeaveTheRewoundTree = (c : Contents) (text : List ℕ) (w : Between) (pairs : List Pair) (control : Control) (label : Label) (plan : Plan) →
    Sides c w pairs → IsPlanOf w pairs control label plan →
    (parts : List (List ℕ)) → entry_at (all_changed c (plan_changes c text plan)) (below w.target parts) ≡ rewound (rewinding c w control label) parts

-- what its steps read is there, and none of its changes is on it
abbrev pub PlansFindWhatTheyRead : Type 0
PlansFindWhatTheyRead = (c : Contents) (text : List ℕ) (w : Between) (pairs : List Pair) (control : Control) (label : Label) (plan : Plan) →
    Sides c w pairs → IsPlanOf w pairs control label plan → IsFound c text plan

-- no change under its mark is on it
abbrev pub PlansLeaveTheMark : Type 0
PlansLeaveTheMark = (c : Contents) (w : Between) (pairs : List Pair) (control : Control) (label : Label) (plan : Plan) →
    Sides c w pairs → IsPlanOf w pairs control label plan → list_any (is_on plan.mark) (body_changes c plan) ≡ false

-- two clusters that were seen, side by side
abbrev pub WalksAreSides : Type 0
WalksAreSides = (c : Contents) (w : Between) (target source : Control) (found there : List Entry) →
    IsTree c → AreApart w.target w.source → IsWalked c w.target target found → IsWalked c w.source source there →
    first_difference (pairs_of found there) ≡ None → Sides c w (pairs_of found there)
