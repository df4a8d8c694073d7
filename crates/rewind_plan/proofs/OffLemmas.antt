-- Which paths no change of a plan is on.
use Rattle.std.proofs.Common.{◌≡◌, ◌≢◌, ℕ, false, ◌||◌, List, [], ◌∷◌, ◌++◌, refl, sym, ap, ap₂, ◌∙◌, subst}
use Rattle.std.specs.List.{list_any}
use Rattle.std.proofs.lemmas.List.Folds.{list_any-append}
use Rattle.cluster_tree.specs.Change.{is_on}
use Rattle.cluster_tree.specs.Contents.{Contents, entry_at}
use Rattle.cluster_tree.specs.PathValue.{Holds, PathValue, below}
use Rattle.cluster_tree.proofs.OrderLemmas.{path_eq-other}
use Rattle.cluster_tree.proofs.RootLemmas.{holds-below}
use Rattle.control_file.specs.Writing.{control_bytes}
use Rattle.control_file.specs.declared.control.Control.{Control}
use Rattle.backup_label.specs.Text.{label_text}
use Rattle.backup_label.specs.declared.label.Label.{Label}
use Rattle.file_walk.specs.declared.pair.Pair.{Pair}
use Rattle.rewind_writes.specs.Plan.{body_changes, closing_changes, plan_changes}
use Rattle.rewind_writes.specs.Steps.{steps_changes}
use Rattle.rewind_writes.specs.declared.plan.Plan.{Plan}
use Rattle.rewind_plan.specs.PlanOf.{IsPlanOf}
use Rattle.rewind_plan.specs.Planned.{Between, action_of, in_target, steps_of}
use Rattle.rewind_plan.specs.Sides.{AllPaired, IsPaired, Sides, control_parts, label_parts, mark_parts}
use Rattle.rewind_plan.proofs.FinalLemmas.{changes-are, closing_is, jobs}
use Rattle.rewind_plan.proofs.ItemLemmas.{all_jobs, items-fit}
use Rattle.rewind_plan.proofs.Items.{Clears, Doing, Fills, Leaves, Makes, file_of, files, folder_of, folders, removal_of, removals}
use Rattle.rewind_plan.proofs.JobLemmas.{owns-off}
use Rattle.rewind_plan.proofs.Jobs.{Job, JobsFit, Standing, after_job, changes_in}
use Rattle.rewind_plan.proofs.PairLemmas.{doing_by, items_of, steps-are}
use Rattle.rewind_plan.proofs.PlanFit.{control_job, control_off_mark, end_job, label_job, label_off_mark, off_one, plan-fits}
use Rattle.rewind_plan.proofs.SidesFit.{sides-fit}

-- ---- paths of all jobs

abbrev AllAt : (PathValue → Type 0) → List Job → Type 0
AllAt P [] = Unit {0}
AllAt P (job ∷ jobs) = P job.path × AllAt P jobs

at_both : (P : PathValue → Type 0) (xs ys : List Job) → AllAt P xs → AllAt P ys → AllAt P (xs ++ ys)
at_both P [] ys one other = other
at_both P (x ∷ xs) ys one other = (one.0, at_both P xs ys one.1 other)

-- no change is on a path that no job is of
off_jobs : (q : PathValue) (s : Standing) (xs : List Job) → JobsFit s xs → AllAt (λ p. q ≢ p) xs → list_any (is_on q) (changes_in xs) ≡ false
off_jobs q s [] fit off = refl
off_jobs q s (x ∷ xs) fit off =
    list_any-append (is_on q) x.changes (changes_in xs)
    ∙ ap (λ b. b || list_any (is_on q) (changes_in xs)) (owns-off x.path q x.changes off.0 fit.0.own)
    ∙ off_jobs q (after_job s x) xs fit.1 off.1

-- the jobs of pairs are of the paths of these
module _ (c : Contents) (w : Between) (P : PathValue → Type 0) (each : (x : Pair) → IsPaired c w x → P (in_target w x)) where
  folder_at : (p : PathValue) (d : Doing) → P p → AllAt P (folder_of p d)
  folder_at p Makes has = (has, tt)
  folder_at p (Fills changes) has = tt
  folder_at p Clears has = tt
  folder_at p Leaves has = tt

  file_at : (p : PathValue) (d : Doing) → P p → AllAt P (file_of p d)
  file_at p Makes has = tt
  file_at p (Fills changes) has = (has, tt)
  file_at p Clears has = tt
  file_at p Leaves has = tt

  removal_at : (p : PathValue) (d : Doing) → P p → AllAt P (removal_of p d)
  removal_at p Makes has = tt
  removal_at p (Fills changes) has = tt
  removal_at p Clears has = (has, tt)
  removal_at p Leaves has = tt

  folders_at : (xs : List Pair) → AllPaired c w xs → AllAt P (folders (items_of c w xs))
  folders_at [] paired = tt
  folders_at (x ∷ xs) paired =
      let d = doing_by c w x (action_of x) in
      at_both P (folder_of (in_target w x) d) (folders (items_of c w xs)) (folder_at (in_target w x) d (each x paired.0)) (folders_at xs paired.1)

  files_at : (xs : List Pair) → AllPaired c w xs → AllAt P (files (items_of c w xs))
  files_at [] paired = tt
  files_at (x ∷ xs) paired =
      let d = doing_by c w x (action_of x) in
      at_both P (file_of (in_target w x) d) (files (items_of c w xs)) (file_at (in_target w x) d (each x paired.0)) (files_at xs paired.1)

  removals_at : (xs : List Pair) → AllPaired c w xs → AllAt P (removals (items_of c w xs))
  removals_at [] paired = tt
  removals_at (x ∷ xs) paired =
      let d = doing_by c w x (action_of x) in
      at_both P (removals (items_of c w xs)) (removal_of (in_target w x) d) (removals_at xs paired.1) (removal_at (in_target w x) d (each x paired.0))

  items_at : (xs : List Pair) → AllPaired c w xs → AllAt P (all_jobs (items_of c w xs))
  items_at xs paired =
      at_both P (folders (items_of c w xs)) (files (items_of c w xs) ++ removals (items_of c w xs)) (folders_at xs paired)
      (at_both P (files (items_of c w xs)) (removals (items_of c w xs)) (files_at xs paired) (removals_at xs paired))

-- ---- of a plan

module _ (c : Contents) (text : List ℕ) (w : Between) (all : List Pair) (new : Control) (label : Label) (plan : Plan) (sides : Sides c w all) (of : IsPlanOf w all new label plan) where
  -- all that it changes lies below the target's root
  pub off-plan : (q : PathValue) → ((parts : List (List ℕ)) → q ≢ below w.target parts) → list_any (is_on q) (plan_changes c text plan) ≡ false
  off-plan q off =
      ap (list_any (is_on q)) (changes-are c text w all new label plan sides of)
      ∙ off_jobs q (entry_at c) (jobs c text w all new label plan sides of)
      (plan-fits c w all sides text (label_text label) (control_bytes new)) (
        off mark_parts,
        at_both (λ p. q ≢ p) (all_jobs (items_of c w all)) (label_job (below w.target label_parts) (label_text label) ∷ control_job (below w.target control_parts) (control_bytes new) ∷ end_job (below w.target mark_parts) ∷ [])
            (items_at c w (λ p. q ≢ p) (λ x paired. off x.path.parts) all sides.paired) (off label_parts, (off control_parts, (off mark_parts, tt))),
      )

  pub plan-below : (q : PathValue) → (Holds w.target q → ⊥) → list_any (is_on q) (plan_changes c text plan) ≡ false
  plan-below q out = off-plan q (λ parts is. out (subst (Holds w.target) (sym is) (holds-below w.target parts)))

-- and none of what it changes under its mark is the mark
module _ (c : Contents) (w : Between) (all : List Pair) (new : Control) (label : Label) (plan : Plan) (sides : Sides c w all) (of : IsPlanOf w all new label plan) where
  abbrev m : PathValue
  m = below w.target mark_parts

  steps_off : list_any (is_on m) (steps_changes c (steps_of w all)) ≡ false
  steps_off =
      ap (list_any (is_on m)) (sym (steps-are c w all))
      ∙ off_jobs m (entry_at c) (all_jobs (items_of c w all)) (items-fit (entry_at c) (items_of c w all) (sides-fit c w all sides))
      (items_at c w (λ p. m ≢ p) (λ x paired e. (off_one c w all sides x paired).0 (sym e)) all sides.paired)

  closing_off : list_any (is_on m) (closing_changes plan.label plan.control) ≡ false
  closing_off =
      ap (list_any (is_on m)) (closing_is w all new label plan of)
      ∙ ap₂ (λ a b. a || (a || (b || false))) (path_eq-other m (below w.target label_parts) (λ e. label_off_mark c w all sides (sym e))) (path_eq-other m (below w.target control_parts) (λ e. control_off_mark c w all sides (sym e)))

  pub plan-unmarked : list_any (is_on plan.mark) (body_changes c plan) ≡ false
  plan-unmarked =
      ap₂ (λ p s. list_any (is_on p) (steps_changes c s ++ closing_changes plan.label plan.control)) of.mark of.steps
      ∙ list_any-append (is_on m) (steps_changes c (steps_of w all)) (closing_changes plan.label plan.control)
      ∙ ap₂ (λ a b. a || b) steps_off closing_off
