-- Where the changes of a rewind go: PostgreSQL 16 manual, reference page of pg_rewind, "How It Works". Own: "The plan of a rewind".
use Rattle.std.specs.Prelude.{◌≡◌, ℤ, List, [], ◌∷◌, map, Ok}
use Rattle.acts.specs.Acts.{AreBelow}
use Rattle.cluster_tree.specs.Change.{Change, call_of}
use Rattle.cluster_tree.specs.Contents.{Contents}
use Rattle.cluster_tree.specs.PathValue.{PathValue}
use Rattle.rewind_core.specs.Fits.{IsPlanFor}
use Rattle.rewind_core.specs.Planned.{Needing, Needs, planned_of}
use Rattle.rewind_core.specs.declared.outcome.Plan.{Plan}
use Rattle.rewind_writes.specs.Plan.{plan_changes}

-- each of these changes is a sync, or of a path that the root holds
abbrev pub AreOf : PathValue → List Change → Type 0
AreOf root changes = AreBelow (root ∷ []) (map call_of changes)

-- every change of a plan for the rewind that is needed is of the target
abbrev pub RewindIsOfTarget : Type 0
RewindIsOfTarget = (c : Contents) (target source : PathValue) (now : ℤ) (n : Needing) (plan : Plan) → planned_of c target source now ≡ Ok (Needs n) → IsPlanFor c n plan → AreOf target (plan_changes c plan.text plan.writes)
