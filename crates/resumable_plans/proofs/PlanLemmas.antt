-- The changes of a plan are in groups, so it can be resumed.
use Rattle.std.proofs.Common.{◌≡◌, ◌≢◌, ◌⊎◌, ℕ, ◌==◌, Bool, true, false, cond, List, [], ◌∷◌, ◌++◌, codes, length, Option, None, is_some, inl, inr, refl, sym, ap, ◌∙◌, subst, true≢false}
use Rattle.wal_base.specs.Decimal.{decimal_number}
use Rattle.cluster_tree.specs.Change.{first_refusal}
use Rattle.cluster_tree.specs.Contents.{Contents, Entry, entry_at, is_folder, parent}
use Rattle.cluster_tree.specs.PathValue.{PathValue, below, path_of}
use Rattle.cluster_tree.specs.PathOrder.{path_eq}
use Rattle.cluster_tree.proofs.Images.{Each}
use Rattle.cluster_tree.proofs.OrderLemmas.{path_eq-same, same_path}
use Rattle.control_file.specs.declared.control.Control.{Control}
use Rattle.backup_label.specs.declared.label.Label.{Label}
use Rattle.relation_files.specs.Reading.{file_named}
use Rattle.file_walk.specs.Actions.{is_kept}
use Rattle.file_walk.specs.Excluded.{is_excluded}
use Rattle.file_walk.specs.Relations.{relation_of}
use Rattle.file_walk.specs.declared.action.Action.{Action}
use Rattle.file_walk.specs.declared.action.Action.TheVariants as action
use Rattle.file_walk.specs.declared.pair.Pair.{Pair}
use Rattle.file_walk.proofs.ExcludedLemmas.{excluded_more}
use Rattle.marked_runs.specs.Runs.{ended}
use Rattle.rewind_writes.specs.Plan.{body_changes}
use Rattle.rewind_writes.specs.declared.plan.Plan.{Plan}
use Rattle.rewind_writes.specs.declared.step.Step.{Step}
use Rattle.rewind_plan.specs.Planned.{Between, action_of, all_file_steps, file_steps, folder_step, folder_steps, in_target, removal_step, removal_steps, steps_of}
use Rattle.rewind_plan.specs.PlanOf.{IsPlanOf}
use Rattle.rewind_plan.specs.Sides.{AllPaired, IsPaired, Sides, control_parts, label_parts}
use Rattle.rewind_plan.proofs.FinalLemmas.{plan-unrefused}
use Rattle.rewind_plan.proofs.FitLemmas.{Acts, acts}
use Rattle.rewind_plan.proofs.FoundLemmas.{plan-found}
use Rattle.rewind_plan.proofs.KindLemmas.{kind_none}
use Rattle.rewind_plan.proofs.PlaceLemmas.{front-of, parent-front, parts_at, path_at, source_at}
use Rattle.rewind_plan.proofs.SideLemmas.{Ended, below-same, parent-of}
use Rattle.rewind_plan.proofs.SidesFit.{source_up}
use Rattle.resumed_laws.specs.Groups.{Group, Untouched, Gone, Labelled, Controlled, AllAreProper, AreGrouped, group_at, group_in, group_of, is_free, is_made, target_of}
use Rattle.resumed_laws.specs.Sound.{IsInGroups, IsPlanSound, with_whole_mark}
use Rattle.resumed_laws.proofs.MayLemmas.{each-both}
use Rattle.resumed_laws.proofs.RunLemmas.{marked-rest, marked-sound}
use Rattle.resumable_plans.proofs.OrderLemmas.{cross-right, group-has, grouped-both, proper-both}
use Rattle.resumable_plans.proofs.PairLemmas.{May, file-removal, file_fine, folder-file, folder-removal, folder_fine, gather, gather-grouped, removal_fine, spread, spread-gather, spread-grouped, spread-spread}

-- ---- what a path of a rewind's own is

label_excluded : is_excluded (path_of false label_parts) ≡ true
unfolding is_excluded
label_excluded = refl

label_alone : relation_of (path_of false label_parts) ≡ None
unfolding relation_of
label_alone = refl

control_kept : is_kept (path_of false control_parts) ≡ true
control_kept = refl

control_alone : relation_of (path_of false control_parts) ≡ None
unfolding relation_of file_named decimal_number
control_alone = refl

module _ (w : Between) where
  -- the steps of a pair, of each kind
  abbrev folder_of : Pair → List Step
  folder_of x = folder_step w x (action_of x)

  abbrev file_of : Pair → List Step
  file_of x = file_steps w x (action_of x)

  abbrev removal_of : Pair → List Step
  removal_of x = removal_step w x (action_of x)

  folders_are : (xs : List Pair) → folder_steps w xs ≡ spread folder_of xs
  folders_are [] = refl
  folders_are (x ∷ xs) = ap (λ l. folder_of x ++ l) (folders_are xs)

  files_are : (xs : List Pair) → all_file_steps w xs ≡ spread file_of xs
  files_are [] = refl
  files_are (x ∷ xs) = ap (λ l. file_of x ++ l) (files_are xs)

  removals_are : (xs : List Pair) → removal_steps w xs ≡ gather removal_of xs
  removals_are [] = refl
  removals_are (x ∷ xs) = ap (λ l. l ++ removal_of x) (removals_are xs)

  abbrev all_of : List Pair → List Step
  all_of xs = spread folder_of xs ++ (spread file_of xs ++ gather removal_of xs)

  steps_are : (xs : List Pair) → steps_of w xs ≡ all_of xs
  steps_are xs =
      ap (λ l. l ++ (all_file_steps w xs ++ removal_steps w xs)) (folders_are xs) ∙ ap (λ l. spread folder_of xs ++ (l ++ removal_steps w xs)) (files_are xs)
      ∙ ap (λ l. spread folder_of xs ++ (spread file_of xs ++ l)) (removals_are xs)

  -- what holds of all steps of pairs
  each-spread : (R : Step → Type 0) (c : Contents) (f : Pair → List Step) → ((x : Pair) → IsPaired c w x → Each R (f x)) → (xs : List Pair) → AllPaired c w xs → Each R (spread f xs)
  each-spread R c f each [] paired = tt
  each-spread R c f each (x ∷ xs) paired = each-both R (f x) (spread f xs) (each x paired.0) (each-spread R c f each xs paired.1)

  each-gather : (R : Step → Type 0) (c : Contents) (f : Pair → List Step) → ((x : Pair) → IsPaired c w x → Each R (f x)) → (xs : List Pair) → AllPaired c w xs → Each R (gather f xs)
  each-gather R c f each [] paired = tt
  each-gather R c f each (x ∷ xs) paired = each-both R (gather f xs) (f x) (each-gather R c f each xs paired.1) (each x paired.0)

  proper-spread : (c : Contents) (f : Pair → List Step) → ((x : Pair) → IsPaired c w x → AllAreProper (f x)) → (xs : List Pair) → AllPaired c w xs → AllAreProper (spread f xs)
  proper-spread c f each [] paired = tt
  proper-spread c f each (x ∷ xs) paired = proper-both (f x) (spread f xs) (each x paired.0) (proper-spread c f each xs paired.1)

  proper-gather : (c : Contents) (f : Pair → List Step) → ((x : Pair) → IsPaired c w x → AllAreProper (f x)) → (xs : List Pair) → AllPaired c w xs → AllAreProper (gather f xs)
  proper-gather c f each [] paired = tt
  proper-gather c f each (x ∷ xs) paired = proper-both (gather f xs) (f x) (proper-gather c f each xs paired.1) (each x paired.0)

module _ (c : Contents) (w : Between) (all : List Pair) (sides : Sides c w all) where
  -- ---- in groups

  steps-grouped : AreGrouped (all_of w all)
  steps-grouped =
      let folders = spread (folder_of w) all in
      let files = spread (file_of w) all in
      let removals = gather (removal_of w) all in
      grouped-both folders (files ++ removals)
      (spread-grouped c w (folder_of w) (λ x. (folder_fine w x (action_of x)).0.on) (λ x. (folder_fine w x (action_of x)).0.grouped) all sides.paired sides.turn)
      (grouped-both files removals
      (spread-grouped c w (file_of w) (λ x. (file_fine w x (action_of x)).0.on) (λ x. (file_fine w x (action_of x)).0.grouped) all sides.paired sides.turn)
      (gather-grouped c w (removal_of w) (λ x. removals_on x (action_of x)) (λ x. removals_grouped x (action_of x)) all sides.paired sides.turn)
      (spread-gather c w (file_of w) (removal_of w) (λ x. (file_fine w x (action_of x)).0.on) (λ x. removals_on x (action_of x)) (λ x. file-removal w x (action_of x)) all all sides.paired sides.paired))
      (cross-right folders files removals
      (spread-spread c w (folder_of w) (file_of w) (λ x. (folder_fine w x (action_of x)).0.on) (λ x. (file_fine w x (action_of x)).0.on) (λ x. folder-file w x (action_of x)) all all sides.paired sides.paired)
      (spread-gather c w (folder_of w) (removal_of w) (λ x. (folder_fine w x (action_of x)).0.on) (λ x. removals_on x (action_of x)) (λ x. folder-removal w x (action_of x)) all all sides.paired sides.paired))
    where
      removals_on : (x : Pair) (a : Action) → Each (λ s. target_of s ≡ in_target w x) (removal_step w x a)
      removals_on x action.Nothing = tt
      removals_on x action.MakeFolder = tt
      removals_on x action.Copy = tt
      removals_on x action.Tail = tt
      removals_on x action.Cut = tt
      removals_on x action.Remove = (refl, tt)
      removals_on x action.KindsDiffer = tt

      removals_grouped : (x : Pair) (a : Action) → AreGrouped (removal_step w x a)
      removals_grouped x action.Nothing = tt
      removals_grouped x action.MakeFolder = tt
      removals_grouped x action.Copy = tt
      removals_grouped x action.Tail = tt
      removals_grouped x action.Cut = tt
      removals_grouped x action.Remove = (tt, tt)
      removals_grouped x action.KindsDiffer = tt

  steps-proper : AllAreProper (all_of w all)
  steps-proper =
      proper-both (spread (folder_of w) all) (spread (file_of w) all ++ gather (removal_of w) all)
      (proper-spread w c (folder_of w) (λ x paired. (folder_fine w x (action_of x)).0.proper) all sides.paired)
      (proper-both (spread (file_of w) all) (gather (removal_of w) all)
      (proper-spread w c (file_of w) (λ x paired. (file_fine w x (action_of x)).0.proper) all sides.paired)
      (proper-gather w c (removal_of w) (λ x paired. (removal_fine w x (action_of x) paired.deep).0.proper) all sides.paired))

  -- ---- what the steps do at a path

  -- of a pair
  own-has : (P : Group → Type 0) (p : PathValue) (x : Pair) (ys : List Step) → (in_target w x ≡ p → (g : Group) → May w x (action_of x) g → P g) → Each (λ s. target_of s ≡ in_target w x) ys → Each (λ y. May w x (action_of x) (group_of y)) ys
      → Each (λ s. target_of s ≡ p → P (group_of s)) ys
  own-has P p x [] has on may = tt
  own-has P p x (y ∷ ys) has on may = (λ e. has (sym on.0 ∙ e) (group_of y) may.0, own-has P p x ys has on.1 may.1)

  -- what holds of all that a pair there may have
  steps-have : (P : Group → Type 0) (p : PathValue) → P Untouched → ((x : Pair) → IsPaired c w x → in_target w x ≡ p → (g : Group) → May w x (action_of x) g → P g) → P (group_at p (steps_of w all))
  steps-have P p none has =
      let R : Step → Type 0 = λ s. target_of s ≡ p → P (group_of s) in
      subst (λ l. P (group_at p l)) (sym (steps_are w all))
      (group-has P p (all_of w all) none
      (each-both R (spread (folder_of w) all) (spread (file_of w) all ++ gather (removal_of w) all)
      (each-spread w R c (folder_of w) (λ x paired. let fine = folder_fine w x (action_of x) in own-has P p x (folder_of w x) (has x paired) fine.0.on fine.1) all sides.paired)
      (each-both R (spread (file_of w) all) (gather (removal_of w) all)
      (each-spread w R c (file_of w) (λ x paired. let fine = file_fine w x (action_of x) in own-has P p x (file_of w x) (has x paired) fine.0.on fine.1) all sides.paired)
      (each-gather w R c (removal_of w) (λ x paired. let fine = removal_fine w x (action_of x) paired.deep in own-has P p x (removal_of w x) (has x paired) fine.0.on fine.1) all sides.paired))))

  -- ---- the label and the control file

  label_one : (x : Pair) (a : Action) (g : Group) → path_of false label_parts ≡ x.path → Acts x.path a x.target x.source → May w x a g → is_free g ≡ true
  label_one x action.Nothing g at known may = absurd (true≢false (sym may.0 ∙ ap (λ p. is_some (relation_of p)) (sym at) ∙ ap is_some label_alone))
  label_one x action.MakeFolder g at known may = absurd (true≢false (sym label_excluded ∙ ap is_excluded at ∙ known.1))
  label_one x action.Copy g at known may = absurd (true≢false (sym label_excluded ∙ ap is_excluded at ∙ known.1))
  label_one x action.Tail g at known may = absurd (true≢false (sym may.0 ∙ ap (λ p. is_some (relation_of p)) (sym at) ∙ ap is_some label_alone))
  label_one x action.Cut g at known may = absurd (true≢false (sym may.0 ∙ ap (λ p. is_some (relation_of p)) (sym at) ∙ ap is_some label_alone))
  label_one x action.Remove g at known may = ap is_free may
  label_one x action.KindsDiffer g at known may = absurd may

  label_free : is_free (group_at (below w.target label_parts) (steps_of w all)) ≡ true
  label_free = steps-have (λ g. is_free g ≡ true) (below w.target label_parts) refl (λ x paired at g may. label_one x (action_of x) g (path_at c w all sides x label_parts paired (sym at)) (acts x.path x.target x.source) may)

  control_one : (x : Pair) (a : Action) (g : Group) → path_of false control_parts ≡ x.path → Acts x.path a x.target x.source → May w x a g → g ≡ Untouched
  control_one x action.Nothing g at known may = absurd (true≢false (sym may.0 ∙ ap (λ p. is_some (relation_of p)) (sym at) ∙ ap is_some control_alone))
  control_one x action.MakeFolder g at known may = absurd (true≢false (sym control_kept ∙ ap is_kept at ∙ known.0))
  control_one x action.Copy g at known may = absurd (true≢false (sym control_kept ∙ ap is_kept at ∙ known.0))
  control_one x action.Tail g at known may = absurd (true≢false (sym may.0 ∙ ap (λ p. is_some (relation_of p)) (sym at) ∙ ap is_some control_alone))
  control_one x action.Cut g at known may = absurd (true≢false (sym may.0 ∙ ap (λ p. is_some (relation_of p)) (sym at) ∙ ap is_some control_alone))
  control_one x action.Remove g at known may = absurd (true≢false (sym control_kept ∙ ap is_kept at ∙ known.0))
  control_one x action.KindsDiffer g at known may = absurd may

  control_none : group_at (below w.target control_parts) (steps_of w all) ≡ Untouched
  control_none =
      steps-have (λ g. g ≡ Untouched) (below w.target control_parts) refl (λ x paired at g may. control_one x (action_of x) g (path_at c w all sides x control_parts paired (sym at)) (acts x.path x.target x.source) may)

  labels_apart : below w.target label_parts ≢ below w.target control_parts
  labels_apart e = cc (below-same w.target label_parts control_parts e)

  -- ---- what is made lies in no folder that goes

  -- the folder of what the source has and a rewind makes
  front_stays : (x : Pair) → IsPaired c w x → is_excluded x.path ≡ false → is_some x.source ≡ true → group_at (parent (in_target w x)) (steps_of w all) ≢ Gone
  front_stays x paired free some gone = kept (ap (λ p. group_at p (steps_of w all)) (sym (parent-front c w all sides x e)) ∙ gone)
    where
      e : Ended x.path.parts
      e = front-of c w all sides x paired

      no_folder : (o : Option Entry) → o ≡ None → is_folder o ≡ true → ⊥
      no_folder o none folder = true≢false (sym folder ∙ ap is_folder none)

      goes : (z : Pair) → IsPaired c w z → below w.target e.front ≡ in_target w z → (is_excluded z.path ≡ true) ⊎ (z.source ≡ None) → ⊥
      goes z other at (inl excluded) =
          let parts : z.path.parts ++ e.last ∷ [] ≡ x.path.parts = ap (λ l. l ++ e.last ∷ []) (parts_at c w all sides z e.front at) ∙ sym e.is in
          let path : below z.path (e.last ∷ []) ≡ x.path = same_path (below z.path (e.last ∷ [])) x.path (other.relative ∙ sym paired.relative) parts in
          true≢false (sym (excluded_more z.path (e.last ∷ []) excluded) ∙ ap is_excluded path ∙ free)
      goes z other at (inr none) =
          no_folder (entry_at c (below w.source e.front)) (kind_none z.source (entry_at c (below w.source e.front)) (source_at c w all sides z e.front other at) none) (source_up c w all sides x e paired some)

      one : (z : Pair) (a : Action) (g : Group) → IsPaired c w z → below w.target e.front ≡ in_target w z → Acts z.path a z.target z.source → May w z a g → g ≢ Gone
      one z action.Nothing g other at known may is = absurd (cc (sym may.1 ∙ is))
      one z action.MakeFolder g other at known may is = absurd (cc (sym may ∙ is))
      one z action.Copy g other at known may is = absurd (cc (sym may ∙ is))
      one z action.Tail g other at known may is = absurd (cc (sym may.1 ∙ is))
      one z action.Cut g other at known may is = absurd (cc (sym may.1 ∙ is))
      one z action.Remove g other at known may is = goes z other at known.2
      one z action.KindsDiffer g other at known may is = may

      kept : group_at (below w.target e.front) (steps_of w all) ≢ Gone
      kept = steps-have (λ g. g ≢ Gone) (below w.target e.front) (λ is. cc is) (λ z other at g may. one z (action_of z) g other (sym at) (acts z.path z.target z.source) may)

  made_one : (p : PathValue) → group_at (parent p) (steps_of w all) ≡ Gone → (x : Pair) (a : Action) (g : Group) → IsPaired c w x → in_target w x ≡ p → Acts x.path a x.target x.source → May w x a g → is_made g ≡ true → ⊥
  made_one p gone x action.Nothing g paired at known may made = true≢false (sym made ∙ ap is_made may.1)
  made_one p gone x action.MakeFolder g paired at known may made = front_stays x paired known.1 (ap is_some known.3) (ap (λ q. group_at (parent q) (steps_of w all)) at ∙ gone)
  made_one p gone x action.Copy g paired at known may made = front_stays x paired known.1 (ap is_some known.2.1) (ap (λ q. group_at (parent q) (steps_of w all)) at ∙ gone)
  made_one p gone x action.Tail g paired at known may made = true≢false (sym made ∙ ap is_made may.1)
  made_one p gone x action.Cut g paired at known may made = true≢false (sym made ∙ ap is_made may.1)
  made_one p gone x action.Remove g paired at known may made = true≢false (sym made ∙ ap is_made may)
  made_one p gone x action.KindsDiffer g paired at known may made = may

  rooms_steps : (p : PathValue) → is_made (group_at p (steps_of w all)) ≡ true → group_at (parent p) (steps_of w all) ≢ Gone
  rooms_steps p made gone =
      steps-have (λ g. is_made g ≡ true → ⊥) p (λ e. true≢false (sym e)) (λ x paired at g may. made_one p gone x (action_of x) g paired at (acts x.path x.target x.source) may) made

  root_stays : group_at (parent (below w.target label_parts)) (steps_of w all) ≢ Gone
  root_stays gone = none (ap (λ p. group_at p (steps_of w all)) (sym (parent-of w.target [] (codes "backup_label"))) ∙ gone)
    where
      none : group_at (below w.target []) (steps_of w all) ≢ Gone
      none = steps-have (λ g. g ≢ Gone) (below w.target []) (λ is. cc is)
          (λ x paired at g may is. true≢false (ap (λ p. length p == 0) (sym (below-same w.target x.path.parts [] at)) ∙ paired.deep))

  -- ---- a plan

  module _ (new : Control) (label : Label) (plan : Plan) (of : IsPlanOf w all new label plan) where
    label_at : is_free (group_at plan.label.path plan.steps.items) ≡ true
    label_at = ap (λ p. is_free (group_at p plan.steps.items)) of.label_at ∙ ap (λ l. is_free (group_at (below w.target label_parts) l)) of.steps ∙ label_free

    control_at : group_at plan.control.path plan.steps.items ≡ Untouched
    control_at = ap (λ p. group_at p plan.steps.items) of.control_at ∙ ap (group_at (below w.target control_parts)) of.steps ∙ control_none

    rooms_at : (p : PathValue) → is_made (group_in plan.steps.items plan.label plan.control p) ≡ true → group_at (parent p) plan.steps.items ≢ Gone
    rooms_at p made gone = by (path_eq p plan.label.path) refl (path_eq p plan.control.path) made
      where
        there : group_at (parent p) (steps_of w all) ≡ Gone
        there = ap (group_at (parent p)) (sym of.steps) ∙ gone

        by : (a : Bool) → path_eq p plan.label.path ≡ a → (b : Bool) → is_made (cond a Labelled (cond b Controlled (group_at p plan.steps.items))) ≡ true → ⊥
        by true e b m = root_stays (ap (λ q. group_at (parent q) (steps_of w all)) (sym (path_eq-same p plan.label.path e ∙ of.label_at)) ∙ there)
        by false e true m = true≢false (sym m)
        by false e false m = rooms_steps p (ap (λ l. is_made (group_at p l)) (sym of.steps) ∙ m) there

    pub plan-groups : IsInGroups plan
    plan-groups = record {
      proper = subst AllAreProper (sym (of.steps ∙ steps_are w all)) steps-proper;
      grouped = subst AreGrouped (sym (of.steps ∙ steps_are w all)) steps-grouped;
      label = label_at;
      control = control_at;
      apart = λ e. labels_apart (sym of.label_at ∙ e ∙ of.control_at);
      rooms = rooms_at;
    }

    pub plan-sound : (text : List ℕ) → IsPlanSound c (with_whole_mark c text plan) plan
    plan-sound text = marked-sound c text plan plan-groups (plan-found c text w all new label plan sides of) (plan-unrefused c text w all new label plan sides of)

    -- nothing refuses what is changed behind the making of the mark
    pub plan-rest : (text : List ℕ) → first_refusal (with_whole_mark c text plan) (body_changes c plan ++ ended plan.mark) ≡ None
    plan-rest text = marked-rest c text plan (plan-unrefused c text w all new label plan sides of)
