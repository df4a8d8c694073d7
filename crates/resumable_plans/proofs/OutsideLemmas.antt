-- What lies outside the target's root.
use Rattle.std.proofs.Common.{◌≡◌, false, ◌||◌, ℕ, List, ◌++◌, ap, sym, ◌∙◌}
use Rattle.std.proofs.lemmas.List.Folds.{list_any-append}
use Rattle.std.specs.List.{list_any}
use Rattle.cluster_tree.specs.Change.{is_on}
use Rattle.cluster_tree.specs.Contents.{Contents, entry_at, or_root}
use Rattle.cluster_tree.specs.PathValue.{Holds, PathValue}
use Rattle.cluster_tree.proofs.ChangeLemmas.{changed-elsewhere}
use Rattle.control_file.specs.declared.control.Control.{Control}
use Rattle.backup_label.specs.declared.label.Label.{Label}
use Rattle.file_walk.specs.declared.pair.Pair.{Pair}
use Rattle.marked_runs.specs.Runs.{ended}
use Rattle.rewind_writes.specs.Plan.{body_changes, mark_laid}
use Rattle.rewind_writes.specs.declared.plan.Plan.{Plan}
use Rattle.rewind_writes.proofs.StepLemmas.{in-parts, off-both}
use Rattle.rewind_plan.specs.Planned.{Between}
use Rattle.rewind_plan.specs.PlanOf.{IsPlanOf}
use Rattle.rewind_plan.specs.Sides.{Sides}
use Rattle.rewind_plan.proofs.OffLemmas.{plan-below}
use Rattle.resumed_laws.specs.Between.{IsBetween}
use Rattle.resumed_laws.specs.Resumed.{resumed_body, resumed_changes}
use Rattle.resumed_laws.specs.Sound.{with_whole_mark}
use Rattle.resumed_laws.proofs.RunLemmas.{marked-after, path-stays}
use Rattle.resumable_plans.proofs.PlanLemmas.{plan-sound}

pub outside-stays : (c i : Contents) (text : List ℕ) (w : Between) (all : List Pair) (new : Control) (label : Label) (plan : Plan) (path : PathValue) → Sides c w all → IsPlanOf w all new label plan → IsBetween (with_whole_mark c text plan) plan i → (Holds w.target path → ⊥)
    → (entry_at i path ≡ entry_at c path) × (list_any (is_on path) (resumed_changes i plan) ≡ false)
outside-stays c i text w all new label plan path sides of between out =
    let first = mark_laid c text plan in
    let off = off-both path first (body_changes c plan ++ ended plan.mark) (ap (list_any (is_on path)) (sym (in-parts c text plan)) ∙ plan-below c text w all new label plan sides of path out) in
    let rest = off-both path (body_changes c plan) (ended plan.mark) off.1 in
    let sound = plan-sound c w all sides new label plan of text in
    let stays = path-stays c (with_whole_mark c text plan) plan sound i between path rest.0 in (
      ap (or_root path.parts) stays.0 ∙ ap (λ d. entry_at d path) (sym (marked-after c text plan)) ∙ changed-elsewhere c first path off.0,
      list_any-append (is_on path) (resumed_body i plan) (ended plan.mark) ∙ ap (λ b. b || list_any (is_on path) (ended plan.mark)) stays.1 ∙ rest.1,
    )
