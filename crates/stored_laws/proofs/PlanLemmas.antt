-- What a resume changes by a plan that a mark holds is of the target, and neither its mark nor what the plan's steps read.
use Rattle.std.proofs.Common.{◌≡◌, ◌≢◌, ℕ, ◌+◌, ◌≤◌, Bool, true, false, cond, List, [], ◌∷◌, length, Option, None, Some, option_map, refl, sym, ap, ap₂, ◌∙◌, subst, true≢false, arith}
use Rattle.std.specs.List.{join_with_byte, list_any}
use Rattle.std.proofs.lemmas.Bool.Decides.{nat_tests}
use Rattle.cluster_tree.specs.Apart.{AreApart}
use Rattle.cluster_tree.specs.Causes.{first_of}
use Rattle.cluster_tree.specs.Change.{Change, Cuts, MakesFile, MakesFolder, Removes, all_changed, is_on}
use Rattle.cluster_tree.specs.Contents.{Contents, Entry, FileEntry, FolderEntry, LinkEntry, entry_at, is_file, is_folder}
use Rattle.cluster_tree.specs.Marks.{is_there}
use Rattle.cluster_tree.specs.PathValue.{PathValue, Holds, below}
use Rattle.cluster_tree.specs.Tree.{bytes_in, file_of}
use Rattle.cluster_tree.proofs.Images.{Each}
use Rattle.cluster_tree.proofs.OrderLemmas.{path_eq-other}
use Rattle.cluster_tree.proofs.RootLemmas.{held-below, holds-below}
use Rattle.clusters.specs.WholeFile.{all_of}
use Rattle.file_walk.specs.Actions.{is_mark}
use Rattle.marked_runs.specs.Runs.{ended, writes_at}
use Rattle.rewind_writes.specs.Steps.{FindAll, Finds, IsRead, part_of}
use Rattle.rewind_writes.specs.declared.plan.Plan.{Plan}
use Rattle.rewind_writes.specs.declared.step.Step.{Step}
use Rattle.rewind_writes.specs.declared.step.Step.TheVariants.{Folder, Whole, Cut, Range, Remove}
use Rattle.rewind_writes.proofs.StepLemmas.{off-both}
use Rattle.plan_text.specs.Laws.{AllAreBetween, IsBelow, IsBetween, IsCopied}
use Rattle.mark_lines.specs.Paths.{parts_below}
use Rattle.plan_text.specs.Paths.{is_kept_out}
use Rattle.plan_text.specs.Stored.{IsPlacedAt}
use Rattle.rewind_plan.specs.Sides.{control_parts, label_parts, mark_parts}
use Rattle.rewind_plan.proofs.FoundLemmas.{apart-below}
use Rattle.rewind_plan.proofs.SideLemmas.{below-same}
use Rattle.resumed_laws.specs.Groups.{Untouched, Labelled, Controlled, group_at, group_in, group_of, target_of}
use Rattle.resumed_laws.specs.Resumed.{resumed_body, resumed_closing, resumed_of, resumed_steps}
use Rattle.resumed_laws.proofs.ReadLemmas.{resumed_body-off}
use Rattle.resumable_plans.proofs.OrderLemmas.{group-has}
use Rattle.rewind_paths.specs.Laws.{AreOf}
use Rattle.rewind_paths.proofs.BelowLemmas.{at-none, at-path, both}
use Rattle.resume_core.specs.Source.{first_lost, is_just, is_least, lost_by, or_later, size_at, unless_so}
use Rattle.stored_laws.specs.Laws.{StoredPlansAreReadable, StoredPlansKeepTheMark, StoredPlansStayInTheTarget}

-- ---- where the steps are

abbrev IsPlaced : PathValue → Step → Type 0
IsPlaced target step = (room : ℕ) × IsBelow room target (target_of step)

step-placed : (target source : PathValue) (step : Step) → IsBetween target source step → IsPlaced target step
step-placed target source (Folder path) is = (_, is)
step-placed target source (Whole from to size) is = (_, is.0.placed)
step-placed target source (Cut path size) is = (_, is.0)
step-placed target source (Range from to at size) is = (_, is.0.placed)
step-placed target source (Remove path) is = (_, is)

-- what follows of where a step is, of each step
each-placed : (target source : PathValue) (P : Step → Type 0) (steps : List Step) → AllAreBetween target source steps → ((step : Step) → IsPlaced target step → P step) → Each P steps
each-placed target source P [] all makes = tt
each-placed target source P (step ∷ steps) all makes = (makes step (step-placed target source step all.0), each-placed target source P steps all.1 makes)

-- ---- all changes are of the target

pub opened-of : (root path : PathValue) (there : Bool) → Holds root path → AreOf root (cond there (Cuts path 0) (MakesFile path) ∷ [])
opened-of root path true holds = (at-path root path holds, tt)
opened-of root path false holds = (at-path root path holds, tt)

writes-of : (root path : PathValue) (at : ℕ) (bytes : List ℕ) → Holds root path → AreOf root (writes_at path at bytes)
writes-of root path at [] holds = tt
writes-of root path at (byte ∷ bytes) holds = (at-path root path holds, tt)

either-of : (root : PathValue) (so : Bool) (xs ys : List Change) → AreOf root xs → AreOf root ys → AreOf root (cond so xs ys)
either-of root true xs ys one other = one
either-of root false xs ys one other = other

again-of : (c : Contents) (root : PathValue) (step : Step) → Holds root (target_of step) → AreOf root (resumed_of c step)
again-of c root (Folder path) holds = either-of root (is_folder (entry_at c path)) [] (MakesFolder path ∷ []) tt (at-path root path holds, tt)
again-of c root (Whole from to size) holds =
    both root (_ ∷ []) (writes_at to 0 (part_of c from 0 size)) (opened-of root to (is_file (entry_at c to)) holds) (writes-of root to 0 (part_of c from 0 size) holds)
again-of c root (Cut path size) holds = (at-path root path holds, tt)
again-of c root (Range from to at size) holds = writes-of root to at (part_of c from at size) holds
again-of c root (Remove path) holds = either-of root (is_there c path) (Removes path ∷ []) [] (at-path root path holds, tt) tt

all-of-root : (c : Contents) (root : PathValue) (steps : List Step) → Each (λ step. Holds root (target_of step)) steps → AreOf root (resumed_steps c steps)
all-of-root c root [] each = tt
all-of-root c root (step ∷ steps) each =
    let now = resumed_of c step in
    both root now (resumed_steps (all_changed c now) steps) (again-of c root step each.0) (all-of-root (all_changed c now) root steps each.1)

pub steps-of : (c : Contents) (target source : PathValue) (steps : List Step) → AllAreBetween target source steps → AreOf target (resumed_steps c steps)
steps-of c target source steps between = all-of-root c target steps (each-placed target source (λ step. Holds target (target_of step)) steps between (λ step placed. placed.1.held))

closing-of : (d : Contents) (root : PathValue) (plan : Plan) → IsPlacedAt root plan → AreOf root (resumed_closing d plan.label plan.control)
closing-of d root plan placed =
    let label = subst (Holds root) (sym placed.label) (holds-below root label_parts) in
    let control = subst (Holds root) (sym placed.control) (holds-below root control_parts) in
    ((opened-of root plan.label.path (is_file (entry_at d plan.label.path)) label).0, (at-path root plan.label.path label, (at-path root plan.control.path control, tt)))

pub stored-of_target : StoredPlansStayInTheTarget
stored-of_target c target source stored is =
    let plan = stored.plan in
    let end = all_changed c (resumed_steps c plan.steps.items) in
    let steps = steps-of c target source plan.steps.items is.said.steps in
    let mark = subst (Holds target) (sym is.placed.mark) (holds-below target mark_parts) in
    let body = both target (resumed_steps c plan.steps.items) (resumed_closing end plan.label plan.control) steps (closing-of end target plan is.placed) in
    (at-none target, both target (resumed_body c plan) (ended plan.mark) body (at-none target, (at-path target plan.mark mark, (at-none target, tt))))

-- ---- no change is on a path that is none of the plan's

group-none : (p : PathValue) (plan : Plan) → Each (λ step. p ≢ target_of step) plan.steps.items → p ≢ plan.label.path → p ≢ plan.control.path → group_in plan.steps.items plan.label plan.control p ≡ Untouched
group-none p plan each label control =
    ap₂ (λ a b. cond a Labelled (cond b Controlled (group_at p plan.steps.items))) (path_eq-other p plan.label.path label) (path_eq-other p plan.control.path control)
    ∙ group-has (λ g. g ≡ Untouched) p plan.steps.items refl (others plan.steps.items each)
  where
    others : (steps : List Step) → Each (λ step. p ≢ target_of step) steps → Each (λ step. target_of step ≡ p → group_of step ≡ Untouched) steps
    others [] off = tt
    others (step ∷ steps) off = (λ at. absurd (off.0 (sym at)), others steps off.1)

pub body-off : (c : Contents) (p : PathValue) (plan : Plan) → Each (λ step. p ≢ target_of step) plan.steps.items → p ≢ plan.label.path → p ≢ plan.control.path → list_any (is_on p) (resumed_body c plan) ≡ false
body-off c p plan each label control =
    resumed_body-off c (all_changed c (resumed_steps c plan.steps.items)) plan.steps.items plan.label plan.control p (group-none p plan each label control)

-- ---- the mark is none of them

way-off : (target path : PathValue) (room : ℕ) → IsBelow room target path → below target mark_parts ≢ path
way-off target path room is at =
    let same : mark_parts ≡ parts_below target path = below-same target mark_parts (parts_below target path) (at ∙ held-below target path is.held) in
    true≢false (ap (λ parts. is_kept_out (join_with_byte 47 parts)) same ∙ is.way.own)

own-off : (target path : PathValue) (own : List (List ℕ)) → path ≡ below target own → is_mark own ≡ false → below target mark_parts ≢ path
own-off target path own is other at = true≢false (ap is_mark (below-same target mark_parts own (at ∙ is)) ∙ other)

pub stored-unmarked : StoredPlansKeepTheMark
stored-unmarked c target source stored is =
    let plan = stored.plan in
    let mark = is.placed.mark in
    body-off c plan.mark plan
    (each-placed target source (λ step. plan.mark ≢ target_of step) plan.steps.items is.said.steps (λ step placed at. way-off target (target_of step) placed.0 placed.1 (sym mark ∙ at)))
    (λ at. own-off target plan.label.path label_parts is.placed.label refl (sym mark ∙ at))
    (λ at. own-off target plan.control.path control_parts is.placed.control refl (sym mark ∙ at))

-- ---- what the steps read is there

so-true : (so : Bool) (path : PathValue) → unless_so so path ≡ None → so ≡ true
so-true true path none = refl
so-true false path none = absurd (cc none)

just-least : (size : ℕ) (o : Option ℕ) → is_just size o ≡ true → is_least (0 + size) o ≡ true
just-least size None is = absurd (cc is)
just-least size (Some found) is = grind (arith, nat_tests)

least-read : (o : Option Entry) (end : ℕ) → is_least end (option_map length (all_of (file_of o))) ≡ true → (is_file o ≡ true) × (end ≤ length (bytes_in o))
least-read None end is = absurd (cc is)
least-read (Some (FolderEntry bad)) end is = absurd (cc is)
least-read (Some (FileEntry bytes)) end is = let within : end ≤ length bytes = grind (arith, nat_tests) in (refl, within)
least-read (Some LinkEntry) end is = absurd (cc is)

of-two : {E : Type 0} (one two : Option E) → first_of (one ∷ two ∷ []) ≡ None → two ≡ None
unfolding first_of
of-two None None none = refl
of-two None (Some refusal) none = absurd (cc none)
of-two (Some refusal) two none = absurd (cc none)

of-both : (one two : Option PathValue) → or_later one two ≡ None → (one ≡ None) × (two ≡ None)
of-both None two none = (refl, none)
of-both (Some path) two none = absurd (cc none)

each-there : (c : Contents) (steps : List Step) → first_lost c steps ≡ None → Each (λ step. lost_by c step ≡ None) steps
unfolding first_lost
each-there c [] none = tt
each-there c (step ∷ steps) none = let two = of-both (lost_by c step) (first_lost c steps) none in (two.0, each-there c steps two.1)

-- ---- and no change of the steps is on it

module _ (c : Contents) (target source : PathValue) (plan : Plan) (apart : AreApart target source) (placed : IsPlacedAt target plan) (between : AllAreBetween target source plan.steps.items) where
  source-off : (parts : List (List ℕ)) → list_any (is_on (below source parts)) (resumed_steps c plan.steps.items) ≡ false
  source-off parts =
      let from = below source parts in
      let steps = resumed_steps c plan.steps.items in
      let off =
      each-placed target source (λ step. from ≢ target_of step) plan.steps.items between
      (λ step is at. apart-below target source parts (parts_below target (target_of step)) apart (at ∙ held-below target (target_of step) is.1.held)) in
      let label : from ≢ plan.label.path = λ at. apart-below target source parts label_parts apart (at ∙ placed.label) in
      let control : from ≢ plan.control.path = λ at. apart-below target source parts control_parts apart (at ∙ placed.control) in
      (off-both from steps (resumed_closing (all_changed c steps) plan.label plan.control) (body-off c from plan off label control)).0

  copied-read : (from to : PathValue) (at size : ℕ) → IsCopied target source from to → is_least (at + size) (size_at c from) ≡ true → IsRead c (resumed_steps c plan.steps.items) from at size
  copied-read from to at size is there =
      let two = least-read (entry_at c from) (at + size) there in
      record {
        file = two.0;
        bytes = two.1;
        kept = subst (λ p. list_any (is_on p) (resumed_steps c plan.steps.items) ≡ false) (sym is.same) (source-off (parts_below target to));
      }

  step-found : (step : Step) → IsBetween target source step → lost_by c step ≡ None → Finds c (resumed_steps c plan.steps.items) step
  step-found (Folder path) is none = tt
  step-found (Whole from to size) is none = copied-read from to 0 size is.0 (just-least size (size_at c from) (so-true _ from none))
  step-found (Cut path size) is none = tt
  step-found (Range from to at size) is none = copied-read from to at size is.0 (so-true _ from none)
  step-found (Remove path) is none = tt

  all-found : (steps : List Step) → AllAreBetween target source steps → Each (λ step. lost_by c step ≡ None) steps → FindAll c (resumed_steps c plan.steps.items) steps
  all-found [] is none = tt
  all-found (step ∷ steps) is none = (step-found step is.0 none.0, all-found steps is.1 none.1)

pub stored-readable : StoredPlansAreReadable
stored-readable c target source stored apart is none =
    let steps = stored.plan.steps.items in
    let there = each-there c steps (of-two _ (first_lost c steps) none) in
    all-found c target source stored.plan apart is.placed is.said.steps steps is.said.steps there
