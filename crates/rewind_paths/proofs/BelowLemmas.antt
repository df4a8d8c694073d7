-- Every change of a rewind is of the target.
use Rattle.std.proofs.Common.{◌≡◌, ℕ, ℤ, Bool, true, false, cond, List, [], ◌∷◌, ◌++◌, length, map, inl, refl, sym, subst, nat_lt, Option, None, Some, Result, Ok, Err}
use Rattle.block_refs.specs.declared.names.RelName.{RelName}
use Rattle.backup_label.specs.declared.label.Label.{Label}
use Rattle.cluster_tree.specs.Causes.{given, unless}
use Rattle.cluster_tree.specs.Change.{Change, Cuts, MakesFile, Syncs}
use Rattle.cluster_tree.specs.Contents.{Contents, entry_at, is_file}
use Rattle.cluster_tree.specs.PathValue.{PathValue, Holds}
use Rattle.cluster_tree.proofs.RootLemmas.{holds-below}
use Rattle.control_file.specs.declared.control.Control.{Control}
use Rattle.clusters.specs.RootControl.{control_at}
use Rattle.file_walk.specs.Pairs.{pairs_of}
use Rattle.file_walk.specs.Walk.{walk_of}
use Rattle.file_walk.specs.Relations.{relation_of}
use Rattle.file_walk.specs.declared.action.Action.{Action}
use Rattle.file_walk.specs.declared.action.Action.TheVariants as action
use Rattle.file_walk.specs.declared.entry.EntryKind.{EntryKind}
use Rattle.file_walk.specs.declared.entry.EntryKind.TheVariants as kind
use Rattle.file_walk.specs.declared.pair.Pair.{Pair}
use Rattle.gated_marks.specs.Changes.{begun_gated, emptied, gate_opened, head_laid, text_laid}
use Rattle.marked_runs.specs.Runs.{ended, writes_at}
use Rattle.rewind_plan.specs.Blocks.{block_steps, range_step}
use Rattle.rewind_plan.specs.PlanOf.{IsPlanOf}
use Rattle.rewind_plan.specs.Planned.{Between, action_of, all_file_steps, both_files, file_steps, folder_step, folder_steps, in_target, removal_step, removal_steps, steps_of, touched_steps, whole_step}
use Rattle.rewind_plan.specs.Sides.{control_parts, label_parts, mark_parts}
use Rattle.rewind_survey.specs.Faults.{told_by}
use Rattle.rewind_survey.specs.Survey.{Parting, Survey, survey_of}
use Rattle.rewind_survey.specs.Survey as survey
use Rattle.rewind_survey.specs.declared.fault.RewindFault.{RewindFault}
use Rattle.rewind_writes.specs.Plan.{body_changes, mark_gate, mark_head, mark_laid, plan_changes}
use Rattle.rewind_writes.specs.Steps.{changes_of, part_of, steps_changes}
use Rattle.rewind_writes.specs.declared.plan.Plan.{Plan}
use Rattle.rewind_writes.specs.declared.step.Step.{Step}
use Rattle.rewind_writes.specs.declared.step.Step.TheVariants.{Folder, Whole, Cut, Range, Remove}
use Rattle.rewind_core.specs.Faults.{seen}
use Rattle.rewind_core.specs.Fits.{IsPlanFor}
use Rattle.rewind_core.specs.declared.outcome.Plan.{Plan as RewindPlan}
use Rattle.rewind_core.specs.Planned.{Aim, AtFork, Meant, Needing, Needs, OneTimeline, aim_of, from_parting, from_size, from_survey, from_walks, pairs_refusal, planned_of}
use Rattle.wal_base.specs.SizeOfBytes.{size_of_bytes}
use Rattle.wal_base.specs.declared.seg_size.SegSize.{SegSize}
use Rattle.acts.specs.Acts.{IsBelow}
use Rattle.rewind_paths.specs.Laws.{AreOf}

-- ---- lists of changes

pub both : (root : PathValue) (xs ys : List Change) → AreOf root xs → AreOf root ys → AreOf root (xs ++ ys)
both root [] ys one two = two
both root (x ∷ xs) ys one two = (one.0, both root xs ys one.1 two)

pub at-path : (root path : PathValue) → Holds root path → (p : PathValue) → Some path ≡ Some p → IsBelow (root ∷ []) p
at-path root path holds p is = let same : path ≡ p = cc is in inl (subst (Holds root) same holds)

pub at-none : (root p : PathValue) → None ≡ Some p → IsBelow (root ∷ []) p
at-none root p is = absurd (cc is)

-- ---- steps

-- what a step changes, the root holds
abbrev IsIn : PathValue → Step → Type 0
IsIn root (Folder path) = Holds root path
IsIn root (Whole from to size) = Holds root to
IsIn root (Cut path size) = Holds root path
IsIn root (Range from to at size) = Holds root to
IsIn root (Remove path) = Holds root path

abbrev AreIn : PathValue → List Step → Type 0
AreIn root [] = Unit {0}
AreIn root (step ∷ steps) = IsIn root step × AreIn root steps

opened-of : (root path : PathValue) (there : Bool) → Holds root path → AreOf root (cond there (Cuts path 0) (MakesFile path) ∷ [])
opened-of root path true holds = (at-path root path holds, tt)
opened-of root path false holds = (at-path root path holds, tt)

write-of : (root path : PathValue) (at : ℕ) (bytes : List ℕ) → Holds root path → AreOf root (writes_at path at bytes)
write-of root path at [] holds = tt
write-of root path at (byte ∷ bytes) holds = (at-path root path holds, tt)

step-of : (c : Contents) (root : PathValue) (step : Step) → IsIn root step → AreOf root (changes_of c step)
step-of c root (Folder path) holds = (at-path root path holds, tt)
step-of c root (Whole from to size) holds = both root (_ ∷ []) (writes_at to 0 (part_of c from 0 size)) (opened-of root to (is_file (entry_at c to)) holds) (write-of root to 0 (part_of c from 0 size) holds)
step-of c root (Cut path size) holds = (at-path root path holds, tt)
step-of c root (Range from to at size) holds = write-of root to at (part_of c from at size) holds
step-of c root (Remove path) holds = (at-path root path holds, tt)

pub steps-of : (c : Contents) (root : PathValue) (steps : List Step) → AreIn root steps → AreOf root (steps_changes c steps)
steps-of c root [] all = tt
steps-of c root (step ∷ steps) all = both root (changes_of c step) (steps_changes c steps) (step-of c root step all.0) (steps-of c root steps all.1)

-- ---- the steps of pairs

and-in : (root : PathValue) (xs ys : List Step) → AreIn root xs → AreIn root ys → AreIn root (xs ++ ys)
and-in root [] ys one two = two
and-in root (x ∷ xs) ys one two = (one.0, and-in root xs ys one.1 two)

each-in : {A : Type 0} (root : PathValue) (step : A → Step) (xs : List A) → ((x : A) → IsIn root (step x)) → AreIn root (map step xs)
each-in root step [] holds = tt
each-in root step (x ∷ xs) holds = (holds x, each-in root step xs holds)

cut-in : (root to : PathValue) (new : ℕ) (longer : Bool) → Holds root to → AreIn root (cond longer (Cut to new ∷ []) [])
cut-in root to new true holds = (holds, tt)
cut-in root to new false holds = tt

blocks-in : (root from to : PathValue) (wanted : ℕ → Bool) (old new : ℕ) → Holds root to → AreIn root (block_steps from to wanted old new)
blocks-in root from to wanted old new holds = and-in root (cond (nat_lt new old) (Cut to new ∷ []) []) _ (cut-in root to new (nat_lt new old) holds) (each-in root (range_step from to) _ (λ run. holds))

module _ (w : Between) where
  held : (pair : Pair) → Holds w.target (in_target w pair)
  held pair = holds-below w.target pair.path.parts

  whole-in : (pair : Pair) (o : Option EntryKind) → AreIn w.target (whole_step w pair o)
  whole-in pair None = tt
  whole-in pair (Some (kind.File size)) = (held pair, tt)
  whole-in pair (Some kind.Folder) = tt

  both-in : (pair : Pair) (at : RelName × ℕ) (target source : Option EntryKind) → AreIn w.target (both_files w pair at target source)
  both-in pair at (Some (kind.File old)) (Some (kind.File new)) = blocks-in w.target _ (in_target w pair) _ old new (held pair)
  both-in pair at (Some (kind.File old)) (Some kind.Folder) = tt
  both-in pair at (Some (kind.File old)) None = tt
  both-in pair at (Some kind.Folder) source = tt
  both-in pair at None source = tt

  touched-in : (pair : Pair) (o : Option (RelName × ℕ)) → AreIn w.target (touched_steps w pair o)
  touched-in pair None = tt
  touched-in pair (Some at) = both-in pair at pair.target pair.source

  folder-in : (pair : Pair) (a : Action) → AreIn w.target (folder_step w pair a)
  folder-in pair action.Nothing = tt
  folder-in pair action.MakeFolder = (held pair, tt)
  folder-in pair action.Copy = tt
  folder-in pair action.Tail = tt
  folder-in pair action.Cut = tt
  folder-in pair action.Remove = tt
  folder-in pair action.KindsDiffer = tt

  file-in : (pair : Pair) (a : Action) → AreIn w.target (file_steps w pair a)
  file-in pair action.Nothing = touched-in pair (relation_of pair.path)
  file-in pair action.MakeFolder = tt
  file-in pair action.Copy = whole-in pair pair.source
  file-in pair action.Tail = touched-in pair (relation_of pair.path)
  file-in pair action.Cut = touched-in pair (relation_of pair.path)
  file-in pair action.Remove = tt
  file-in pair action.KindsDiffer = tt

  removal-in : (pair : Pair) (a : Action) → AreIn w.target (removal_step w pair a)
  removal-in pair action.Nothing = tt
  removal-in pair action.MakeFolder = tt
  removal-in pair action.Copy = tt
  removal-in pair action.Tail = tt
  removal-in pair action.Cut = tt
  removal-in pair action.Remove = (held pair, tt)
  removal-in pair action.KindsDiffer = tt

  folders-in : (pairs : List Pair) → AreIn w.target (folder_steps w pairs)
  folders-in [] = tt
  folders-in (pair ∷ pairs) = and-in w.target (folder_step w pair (action_of pair)) (folder_steps w pairs) (folder-in pair (action_of pair)) (folders-in pairs)

  files-in : (pairs : List Pair) → AreIn w.target (all_file_steps w pairs)
  files-in [] = tt
  files-in (pair ∷ pairs) = and-in w.target (file_steps w pair (action_of pair)) (all_file_steps w pairs) (file-in pair (action_of pair)) (files-in pairs)

  removals-in : (pairs : List Pair) → AreIn w.target (removal_steps w pairs)
  removals-in [] = tt
  removals-in (pair ∷ pairs) = and-in w.target (removal_steps w pairs) (removal_step w pair (action_of pair)) (removals-in pairs) (removal-in pair (action_of pair))

  pub all-in : (pairs : List Pair) → AreIn w.target (steps_of w pairs)
  all-in pairs = and-in w.target (folder_steps w pairs) _ (folders-in pairs) (and-in w.target (all_file_steps w pairs) (removal_steps w pairs) (files-in pairs) (removals-in pairs))

-- ---- a mark that is laid

emptied-of : (root mark : PathValue) (there : Bool) → Holds root mark → AreOf root (cond there (Cuts mark 0 ∷ Syncs ∷ []) (MakesFile mark ∷ []))
emptied-of root mark true holds = (at-path root mark holds, (at-none root, tt))
emptied-of root mark false holds = (at-path root mark holds, tt)

pub laid-of : (c : Contents) (root mark : PathValue) (text : List ℕ) → Holds root mark → AreOf root (begun_gated c mark mark_head mark_gate text)
laid-of c root mark text holds =
    let on = at-path root mark holds in
    let head = both root (emptied c mark) _ (emptied-of root mark (is_file (entry_at c mark)) holds) (on, (at-none root, tt)) in
    let put = both root (writes_at mark (length mark_head) text) (Syncs ∷ []) (write-of root mark (length mark_head) text holds) (at-none root, tt) in
    both root _ (gate_opened mark mark_gate) (both root (head_laid c mark mark_head) (text_laid mark (length mark_head) text) head put) (on, (at-none root, tt))

-- ---- the changes of a rewind

pub plan-of : (c : Contents) (text : List ℕ) (w : Between) (pairs : List Pair) (control : Control) (label : Label) (plan : Plan) → IsPlanOf w pairs control label plan → AreOf w.target (plan_changes c text plan)
plan-of c text w pairs control label plan is =
    let root = w.target in
    let held = subst (Holds root) (sym is.mark) (holds-below root mark_parts) in
    let at_label = at-path root plan.label.path (subst (Holds root) (sym is.label_at) (holds-below root label_parts)) in
    let at_control = at-path root plan.control.path (subst (Holds root) (sym is.control_at) (holds-below root control_parts)) in
    let steps = steps-of c root plan.steps.items (subst (AreIn root) (sym is.steps) (all-in w pairs)) in
    let body = both root (steps_changes c plan.steps.items) _ steps (at_label, (at_label, (at_control, tt))) in
    both root _ (ended plan.mark) (both root (mark_laid c text plan) (body_changes c plan) (laid-of c root plan.mark text held) body) (at-none root, (at-path root plan.mark held, (at-none root, tt)))

-- ---- what is meant is of the roots that were given

abbrev pub Aims : PathValue → Result Meant RewindFault → Type 0
Aims target (Ok OneTimeline) = Unit {0}
Aims target (Ok (AtFork fork)) = Unit {0}
Aims target (Ok (Needs n)) = n.aim.between.target ≡ target
Aims target (Err e) = Unit {0}

aims-unless : (target : PathValue) (o : Option RewindFault) (r : Result Meant RewindFault) → Aims target r → Aims target (unless o r)
aims-unless target None r aims = aims
aims-unless target (Some e) r aims = tt

aims-given : {A : Type 0} (target : PathValue) (r : Result A RewindFault) (k : A → Result Meant RewindFault) → ((v : A) → Aims target (k v)) → Aims target (given r k)
aims-given target (Ok v) k aims = aims v
aims-given target (Err e) k aims = tt

walks-aim : (c : Contents) (aim : Aim) → Aims aim.between.target (from_walks c aim)
unfolding from_walks
walks-aim c aim =
    aims-given aim.between.target (seen (walk_of c aim.between.target)) _ (λ ts. aims-given aim.between.target (seen (walk_of c aim.between.source)) _ (λ ss.
    aims-unless aim.between.target (pairs_refusal aim.between (pairs_of ts ss)) (Ok (Needs (record { aim = aim; pairs = pairs_of ts ss }))) refl))

size-aims : (c : Contents) (target source : PathValue) (part : Parting) (t s : Control) (o : Option SegSize) (now : ℤ) → Aims target (from_size c target source part t s o now)
size-aims c target source part t s (Some size) now = walks-aim c (aim_of target source part t s size now)
size-aims c target source part t s None now = tt

parting-aims : (c : Contents) (target source : PathValue) (now : ℤ) (part : Parting) → Aims target (from_parting c target source now part)
unfolding from_parting
parting-aims c target source now part =
    aims-given target (told_by (control_at c target)) _ (λ t. aims-given target (told_by (control_at c source)) _ (λ s. size-aims c target source part t s (size_of_bytes t.walSegSize) now))

survey-aims : (c : Contents) (target source : PathValue) (now : ℤ) (s : Survey) → Aims target (from_survey c target source now s)
survey-aims c target source now survey.OneTimeline = tt
survey-aims c target source now (survey.AtFork fork) = tt
survey-aims c target source now (survey.Parted part) = parting-aims c target source now part

pub planned-aims : (c : Contents) (target source : PathValue) (now : ℤ) → Aims target (planned_of c target source now)
unfolding planned_of
planned-aims c target source now = aims-given target (survey_of c target source) (from_survey c target source now) (survey-aims c target source now)

-- ---- both, of a rewind that is needed

pub of-target : (c : Contents) (target source : PathValue) (now : ℤ) (n : Needing) (plan : RewindPlan) → planned_of c target source now ≡ Ok (Needs n) → IsPlanFor c n plan → AreOf target (plan_changes c plan.text plan.writes)
of-target c target source now n plan is for =
    let aims : n.aim.between.target ≡ target = subst (Aims target) is (planned-aims c target source now) in
    subst (λ root. AreOf root (plan_changes c plan.text plan.writes)) aims (plan-of c plan.text n.aim.between n.pairs n.aim.control n.aim.label plan.writes for.writes)
