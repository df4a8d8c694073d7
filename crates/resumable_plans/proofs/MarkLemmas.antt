-- What stands under the mark of a rewind, and a mark that reads as complete.
use Rattle.std.proofs.Common.{◌≡◌, ℕ, List, [], ◌∷◌, ◌++◌, length, map, None, refl, ap, ◌∙◌, subst, inl, inr, arith}
use Rattle.std.proofs.lemmas.List.{append-nil}
use Rattle.cluster_tree.specs.Change.{all_changed, call_of, first_refusal}
use Rattle.cluster_tree.specs.Contents.{Contents, FileEntry, entry_at, or_root}
use Rattle.cluster_tree.specs.Joined.{joined_writes}
use Rattle.cluster_tree.specs.PathValue.{below}
use Rattle.cluster_tree.specs.Tree.{bytes_at, bytes_in}
use Rattle.cluster_tree.proofs.ChangeLemmas.{changed-in_turn}
use Rattle.cluster_tree.proofs.ContentsLemmas.{entry-put, entry-removed}
use Rattle.control_file.specs.declared.control.Control.{Control}
use Rattle.backup_label.specs.declared.label.Label.{Label}
use Rattle.file_walk.specs.declared.pair.Pair.{Pair}
use Rattle.gated_marks.specs.Gates.{IsComplete}
use Rattle.gated_marks.proofs.ByteLemmas.{short-incomplete}
use Rattle.marked_runs.specs.Runs.{ended}
use Rattle.rewound_tree.specs.Rewound.{rewound}
use Rattle.rewind_writes.specs.Plan.{IsResumable, IsUnderPlan, body_changes, mark_gate, mark_head, mark_laid}
use Rattle.rewind_writes.specs.declared.plan.Plan.{Plan}
use Rattle.rewind_plan.specs.Planned.{Between}
use Rattle.rewind_plan.specs.PlanOf.{IsPlanOf, rewinding}
use Rattle.rewind_plan.specs.Sides.{Sides, mark_parts}
use Rattle.rewind_plan.proofs.FinalLemmas.{plan-leaves-all}
use Rattle.resumed_laws.specs.Between.{IsBetween}
use Rattle.resumed_laws.specs.Resumed.{resumed_changes}
use Rattle.resumed_laws.specs.Sound.{with_whole_mark}
use Rattle.resumed_laws.specs.Stopped.{FirstStop, IsLeft, IsStopped}
use Rattle.resumed_laws.proofs.RunLemmas.{left-between, marked-finished, whole-resume}
use Rattle.resumable_plans.proofs.PlanLemmas.{plan-rest, plan-sound}

-- ---- which marks read as complete

removed_bare : (parts : List (List ℕ)) → bytes_in (or_root parts None) ≡ []
removed_bare [] = refl
removed_bare (part ∷ parts) = refl

bare_short : (bytes : List ℕ) → bytes ≡ [] → IsComplete mark_head mark_gate bytes → ⊥
bare_short bytes none = short-incomplete mark_head mark_gate bytes (omega (arith, ap length none))

-- of what a stop leaves only what is under the mark has one that does
pub complete-under : (c i : Contents) (text : List ℕ) (plan : Plan) → (IsComplete mark_head mark_gate (bytes_at c plan.mark) → ⊥) → IsResumable c text plan i → IsComplete mark_head mark_gate (bytes_at i plan.mark) → IsUnderPlan c text plan i
complete-under c i text plan bare (inl same) whole = absurd (bare (subst (λ k. IsComplete mark_head mark_gate (bytes_at k plan.mark)) same whole))
complete-under c i text plan bare (inr (inl incomplete)) whole =
    absurd (incomplete.2 (subst (IsComplete mark_head mark_gate) (ap (λ k. bytes_at k plan.mark) incomplete.1 ∙ ap bytes_in (entry-put c plan.mark (FileEntry incomplete.0))) whole))
complete-under c i text plan bare (inr (inr (inl under))) whole = under
complete-under c i text plan bare (inr (inr (inr finished))) whole =
    let before = mark_laid c text plan ++ body_changes c plan in
    absurd (bare_short (bytes_at i plan.mark) (ap (λ k. bytes_at k plan.mark) (finished ∙ changed-in_turn c before (ended plan.mark)) ∙ ap bytes_in (entry-removed (all_changed c before) plan.mark) ∙ removed_bare plan.mark.parts) whole)

-- ---- of a rewind

module _ (c i : Contents) (text : List ℕ) (w : Between) (all : List Pair) (new : Control) (label : Label) (plan : Plan) (sides : Sides c w all) (of : IsPlanOf w all new label plan) where
  -- no mark stands before it
  unmarked : IsComplete mark_head mark_gate (bytes_at c plan.mark) → ⊥
  unmarked = bare_short (bytes_at c plan.mark) (ap (bytes_at c) of.mark ∙ ap bytes_in (sides.marks_target mark_parts refl))

  under-stopped : IsUnderPlan c text plan i → IsStopped (with_whole_mark c text plan) (body_changes c plan) i
  under-stopped under = record {
    made = map call_of (body_changes c plan);
    rest = [];
    joins = ap joined_writes (append-nil (map call_of (body_changes c plan)));
    image = under.image;
  }

  pub between-left : IsLeft c (with_whole_mark c text plan) plan i → IsBetween (with_whole_mark c text plan) plan i
  between-left left = left-between c (with_whole_mark c text plan) plan (plan-sound c w all sides new label plan of text) i left

  pub under-between : IsUnderPlan c text plan i → IsBetween (with_whole_mark c text plan) plan i × IsLeft c (with_whole_mark c text plan) plan i
  under-between under =
      let left : IsLeft c (with_whole_mark c text plan) plan i = FirstStop (under-stopped under) in
      (between-left left, left)

  -- from what is between start and end
  pub resumes-rewind : IsBetween (with_whole_mark c text plan) plan i → (first_refusal i (resumed_changes i plan) ≡ None)
      × ((parts : List (List ℕ)) → entry_at (all_changed i (resumed_changes i plan)) (below w.target parts) ≡ rewound (rewinding c w new label) parts)
  resumes-rewind between =
      let whole = whole-resume c (with_whole_mark c text plan) plan (plan-sound c w all sides new label plan of text) i between (plan-rest c w all sides new label plan of text) in
      (whole.0, λ parts. ap (λ d. entry_at d (below w.target parts)) (whole.1 ∙ marked-finished c text plan) ∙ plan-leaves-all c text w all new label plan sides of parts)

  pub complete-resumes : IsResumable c text plan i → (whole : IsComplete mark_head mark_gate (bytes_at i plan.mark)) → IsUnderPlan c text plan i
  complete-resumes left whole = complete-under c i text plan unmarked left whole
