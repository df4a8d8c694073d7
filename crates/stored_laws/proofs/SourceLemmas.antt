-- The source of a rewind is as it was, whatever a stop left of the target, and is the one that the plan was made for.
use Rattle.std.proofs.Common.{◌≡◌, ℕ, ◌+◌, ◌==◌, ◌≤◌, true, false, cond, nat_le, List, [], ◌∷◌, length, codes, Option, None, Some, is_some, option_map, refl, sym, ap, ap₂, ◌∙◌, arith}
use Rattle.std.proofs.lemmas.Bool.Decides.{nat_tests}
use Rattle.layout.specs.Readers.{u32_at}
use Rattle.cluster_tree.specs.Causes.{first_of}
use Rattle.cluster_tree.specs.Contents.{Contents, FileEntry, entry_at}
use Rattle.cluster_tree.specs.Marks.{is_there, marks_of}
use Rattle.cluster_tree.specs.PathValue.{PathValue, below}
use Rattle.cluster_tree.specs.Tree.{bytes_in, file_of}
use Rattle.cluster_tree.proofs.Images.{Each}
use Rattle.cluster_tree.proofs.RootLemmas.{roots-apart}
use Rattle.control_file.specs.declared.control.Control.{Control}
use Rattle.clusters.specs.Marks.{unfinished, with_mark}
use Rattle.clusters.specs.RootControl.{control_at, control_in}
use Rattle.clusters.specs.Roots.{path_in}
use Rattle.clusters.specs.WholeFile.{all_of}
use Rattle.backup_label.specs.declared.label.Label.{Label}
use Rattle.file_walk.specs.Actions.{is_mark}
use Rattle.file_walk.specs.declared.pair.Pair.{Pair}
use Rattle.rewind_writes.specs.declared.plan.Plan.{Plan}
use Rattle.rewind_writes.specs.declared.step.Step.{Step}
use Rattle.plan_text.specs.Text.{Saying}
use Rattle.rewind_plan.specs.PlanOf.{IsPlanOf}
use Rattle.rewind_plan.specs.Planned.{Between, in_source, steps_of}
use Rattle.rewind_plan.specs.Sides.{Sides, control_parts}
use Rattle.resumed_laws.specs.Between.{IsBetween}
use Rattle.resumed_laws.specs.Sound.{with_whole_mark}
use Rattle.resumable_plans.proofs.OutsideLemmas.{outside-stays}
use Rattle.rewind_core.specs.Text.{sum_at}
use Rattle.resume_core.specs.Source.{first_lost, is_just, is_least, lost_by, or_later, other_sum, size_at, source_difference, unless_so}
use Rattle.stored_laws.proofs.StepLemmas.{HoldsOfPairs, of-steps}

-- ---- by what stands there

path-is : (root : PathValue) → path_in root (codes "global/pg_control") ≡ below root control_parts
unfolding path_in
path-is root = refl

same-control : (c i : Contents) (root : PathValue) → entry_at i (below root control_parts) ≡ entry_at c (below root control_parts) → control_at i root ≡ control_at c root
unfolding control_at
same-control c i root same = ap (λ o. control_in root (file_of o)) (ap (entry_at i) (path-is root) ∙ same ∙ ap (entry_at c) (sym (path-is root)))

none-unfinished : (c : Contents) (root : PathValue) → is_there c (marks_of root).rewind ≡ false → is_there c (marks_of root).replay ≡ false → is_there c (marks_of root).reset ≡ false → unfinished c root ≡ None
unfolding unfinished
none-unfinished c root rewind replay reset =
    let marks = marks_of root in
    ap (λ b. with_mark marks (cond b (Some 0) (cond (is_there c marks.replay) (Some 1) (cond (is_there c marks.reset) (Some 2) None)))) rewind
    ∙ ap (λ b. with_mark marks (cond b (Some 1) (cond (is_there c marks.reset) (Some 2) None))) replay
    ∙ ap (λ b. with_mark marks (cond b (Some 2) None)) reset

none-lost : (c : Contents) (steps : List Step) → Each (λ step. lost_by c step ≡ None) steps → first_lost c steps ≡ None
unfolding first_lost
none-lost c [] each = refl
none-lost c (step ∷ steps) each = ap₂ or_later each.0 (none-lost c steps each.1)

pub none-of-two : {E : Type 0} (one two : Option E) → one ≡ None → two ≡ None → first_of (one ∷ two ∷ []) ≡ None
unfolding first_of
none-of-two one two first second = ap₂ (λ a b. first_of (a ∷ b ∷ [])) first second

just : (n size : ℕ) → n ≡ size → n == size ≡ true
just n size is = grind (arith, nat_tests)

least : (end n : ℕ) → end ≤ n → nat_le end n ≡ true
least end n within = grind (arith, nat_tests)

-- ---- under the mark of a rewind

module _ (c i : Contents) (text : List ℕ) (w : Between) (all : List Pair) (new : Control) (label : Label) (plan : Plan) (sides : Sides c w all) (of : IsPlanOf w all new label plan) (between : IsBetween (with_whole_mark c text plan) plan i) where
  source-stays : (parts : List (List ℕ)) → entry_at i (below w.source parts) ≡ entry_at c (below w.source parts)
  source-stays parts =
      (outside-stays c i text w all new label plan (below w.source parts) sides of between (roots-apart w.target w.source parts sides.apart.0 sides.apart.1)).0

  pub control-stays : control_at i w.source ≡ control_at c w.source
  control-stays = same-control c i w.source (source-stays control_parts)

  sum-stays : sum_at i w.source ≡ sum_at c w.source
  sum-stays = ap (λ o. u32_at 288 (bytes_in o)) (source-stays control_parts)

  unmarked : (parts : List (List ℕ)) → is_mark parts ≡ true → is_there i (below w.source parts) ≡ false
  unmarked parts is = ap is_some (source-stays parts ∙ sides.marks_source parts is)

  pub source-finished : unfinished i w.source ≡ None
  source-finished =
      none-unfinished i w.source (unmarked (codes "pg_rewind.unfinished" ∷ []) refl) (unmarked (codes "pg_walreplay.unfinished" ∷ []) refl) (unmarked (codes "pg_resetwal.unfinished" ∷ []) refl)

  size-stays : (x : Pair) (bytes : List ℕ) → entry_at c (in_source w x) ≡ Some (FileEntry bytes) → size_at i (in_source w x) ≡ Some (length bytes)
  size-stays x bytes is = ap (λ o. option_map length (all_of (file_of o))) (source-stays x.path.parts ∙ is)

  -- each file that a step reads is as the step says
  pairs-kept : HoldsOfPairs c w (λ step. lost_by i step ≡ None)
  pairs-kept = record {
    folder = λ x paired. refl;
    whole = λ x bytes size paired is long. ap (λ b. unless_so b (in_source w x)) (ap (is_just size) (size-stays x bytes is) ∙ just (length bytes) size long);
    cut = λ x size paired. refl;
    range = λ x bytes at size paired is within. ap (λ b. unless_so b (in_source w x)) (ap (is_least (at + size)) (size-stays x bytes is) ∙ least (at + size) (length bytes) within);
    removal = λ x paired. refl;
  }

  -- so the source is that of what a plan of these steps says
  pub source-same : (said : Saying) → said.source ≡ sum_at c w.source → said.steps ≡ plan.steps.items → source_difference i w.source said ≡ None
  source-same said sum steps =
      let other : other_sum i w.source said.source ≡ None = ap (λ b. unless_so b (below w.source control_parts)) (just (sum_at i w.source) said.source (sum-stays ∙ sym sum)) in
      let kept = none-lost i (steps_of w all) (of-steps c w (λ step. lost_by i step ≡ None) pairs-kept all sides.paired) in
      none-of-two (other_sum i w.source said.source) (first_lost i said.steps) other (ap (first_lost i) (steps ∙ of.steps) ∙ kept)
