-- What a stop leaves of a rewind, told by its mark.
use Rattle.std.proofs.Common.{◌≡◌, ◌⊎◌, ◌<◌, ◌∙◌, ℕ, Bool, true, false, cond, List, length, Option, None, Some, inl, inr, refl, sym, ap, subst, true≢false, arith}
use Rattle.std.specs.FinMap.{get, remove}
use Rattle.cluster_tree.specs.Contents.{Contents, Entry, FileEntry, entry_at, is_file, or_root}
use Rattle.cluster_tree.specs.PathOrder.{path_eq}
use Rattle.cluster_tree.specs.PathValue.{PathValue}
use Rattle.cluster_tree.specs.Tree.{bytes_in}
use Rattle.cluster_tree.proofs.ContentsLemmas.{entry-put, get-removed, get-removed_other, removed-put, same-contents}
use Rattle.cluster_tree.proofs.OrderLemmas.{path_eq-own, path_eq-same}
use Rattle.gated_marks.specs.Gates.{IsComplete}
use Rattle.gated_marks.specs.Left.{with_mark}
use Rattle.gated_marks.proofs.ByteLemmas.{whole-read}
use Rattle.plan_text.specs.Text.{Saying, plan_text}
use Rattle.rewind_plan.specs.Sides.{mark_parts}
use Rattle.rewind_writes.specs.Plan.{IsResumable, mark_bytes, mark_gate, mark_head}
use Rattle.rewind_core.specs.Fits.{IsPlanFor, IsRewound}
use Rattle.rewind_core.specs.Laws.{EachStopIsTold}
use Rattle.rewind_core.specs.Planned.{Needing}
use Rattle.rewind_core.specs.declared.outcome.Plan.{Plan}
use Rattle.rewind_core.proofs.FactLemmas.{plan-over}
use Rattle.rewind_core.proofs.PerformLemmas.{left-by}
use Rattle.without_file.specs.Without.{without_file}

-- ---- nothing is taken away where nothing stands

absent : (parts : List (List ℕ)) (o : Option Entry) → or_root parts o ≡ None → o ≡ None
absent parts None none = refl
absent parts (Some entry) none = none

taken_at : (c : Contents) (path q : PathValue) (b : Bool) → path_eq q path ≡ b → get c path ≡ None → get (remove c path) q ≡ get c q
taken_at c path q true e none = let same : q ≡ path = path_eq-same q path e in ap (get (remove c path)) same ∙ get-removed c path ∙ sym none ∙ ap (get c) (sym same)
taken_at c path q false e none = get-removed_other c path q (λ is. true≢false (sym (path_eq-own path) ∙ ap (λ x. path_eq x path) (sym is) ∙ e))

taken-none : (c : Contents) (path : PathValue) → entry_at c path ≡ None → remove c path ≡ c
taken-none c path none = same-contents _ _ (λ q. taken_at c path q (path_eq q path) refl (absent path.parts (get c path) none))

-- a file that is put there isn't seen
unseen-put : (c : Contents) (mark : PathValue) (bytes : List ℕ) → entry_at c mark ≡ None → without_file (with_mark c mark bytes) mark ≡ c
unseen-put c mark bytes none =
    ap (λ o. cond (is_file o) (remove (with_mark c mark bytes) mark) (with_mark c mark bytes)) (entry-put c mark (FileEntry bytes)) ∙ removed-put c mark (FileEntry bytes) ∙ taken-none c mark none

-- ---- a plan's text has a first line

text-some : (root : PathValue) (said : Saying) → 0 < length (plan_text root said)
unfolding plan_text
text-some root said = omega arith

-- ---- what is left

module _ (c : Contents) (n : Needing) (plan : Plan) (is : IsPlanFor c n plan) where
  bare : entry_at c plan.writes.mark ≡ None
  bare = ap (entry_at c) is.writes.mark ∙ is.sides.marks_target mark_parts refl

  held-complete : (o : Option Entry) → o ≡ Some (FileEntry (mark_bytes plan.text)) → IsComplete mark_head mark_gate (bytes_in o)
  held-complete o holds =
      subst (λ x. IsComplete mark_head mark_gate (bytes_in x)) (sym holds)
      ((whole-read mark_head mark_gate plan.text (omega arith)).complete (subst (λ t. 0 < length t) (sym is.text) (text-some n.aim.between.target _)))

  told : (i : Contents) → IsResumable c plan.text plan.writes i → (without_file i plan.writes.mark ≡ c) ⊎ (IsComplete mark_head mark_gate (bytes_in (entry_at i plan.writes.mark)) ⊎ IsRewound c n i)
  told i (inl same) = inl (ap (λ d. without_file d plan.writes.mark) same ∙ sym (plan-over c n plan is).without)
  told i (inr (inl (bytes, laid, half))) = inl (ap (λ d. without_file d plan.writes.mark) laid ∙ unseen-put c plan.writes.mark bytes bare)
  told i (inr (inr (inl under))) = inr (inl (held-complete (entry_at i plan.writes.mark) under.holds))
  told i (inr (inr (inr done))) = inr (inr (left-by c n plan is i done))

pub stop-told : EachStopIsTold
stop-told c n plan i is left = subst (λ p. (without_file i p ≡ c) ⊎ (IsComplete mark_head mark_gate (bytes_in (entry_at i plan.writes.mark)) ⊎ IsRewound c n i)) is.writes.mark (told c n plan is i left)
