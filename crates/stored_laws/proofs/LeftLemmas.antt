-- What a stop of a rewind left with a complete mark, or what is on its way.
use Rattle.std.proofs.Common.{◌≡◌, ◌⊎◌, ℕ, List, Some, ap, ◌∙◌, inl, inr}
use Rattle.cluster_tree.specs.Contents.{Contents, FileEntry, entry_at, or_root}
use Rattle.cluster_tree.specs.Tree.{bytes_at}
use Rattle.cluster_tree.proofs.ContentsLemmas.{entry-put}
use Rattle.control_file.specs.declared.control.Control.{Control}
use Rattle.backup_label.specs.declared.label.Label.{Label}
use Rattle.file_walk.specs.declared.pair.Pair.{Pair}
use Rattle.gated_marks.specs.Gates.{IsComplete}
use Rattle.rewind_writes.specs.Plan.{IsResumable, mark_bytes, mark_gate, mark_head}
use Rattle.rewind_writes.specs.declared.plan.Plan.{Plan}
use Rattle.rewind_plan.specs.PlanOf.{IsPlanOf}
use Rattle.rewind_plan.specs.Planned.{Between}
use Rattle.rewind_plan.specs.Sides.{Sides}
use Rattle.rewind_plan.proofs.OffLemmas.{plan-unmarked}
use Rattle.resumed_laws.specs.Between.{IsBetween}
use Rattle.resumed_laws.specs.Sound.{with_whole_mark}
use Rattle.resumed_laws.proofs.RunLemmas.{path-stays}
use Rattle.resumable_plans.proofs.MarkLemmas.{complete-resumes, under-between}
use Rattle.resumable_plans.proofs.PlanLemmas.{plan-sound}

module _ (c i : Contents) (text : List ℕ) (w : Between) (all : List Pair) (new : Control) (label : Label) (plan : Plan) (sides : Sides c w all) (of : IsPlanOf w all new label plan) where
  pub stopped-between : IsResumable c text plan i ⊎ IsBetween (with_whole_mark c text plan) plan i → IsComplete mark_head mark_gate (bytes_at i plan.mark) → IsBetween (with_whole_mark c text plan) plan i
  stopped-between (inl first) whole = (under-between c i text w all new label plan sides of (complete-resumes c i text w all new label plan sides of first whole)).0
  stopped-between (inr between) whole = between

  -- no change under the mark is on it
  pub mark-stays : IsBetween (with_whole_mark c text plan) plan i → entry_at i plan.mark ≡ Some (FileEntry (mark_bytes text))
  mark-stays between =
      ap (or_root plan.mark.parts) (path-stays c (with_whole_mark c text plan) plan (plan-sound c w all sides new label plan of text) i between plan.mark (plan-unmarked c w all new label plan sides of)).0
      ∙ entry-put c plan.mark (FileEntry (mark_bytes text))
