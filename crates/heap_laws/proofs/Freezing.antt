-- FREEZE_PAGE: its plans are edits of tuples, one after another.
use Rattle.std.proofs.Common.{◌≡◌, ℕ, ◌+◌, ◌-◌, List, [], ◌∷◌, ◌++◌, Bool, true, false, Ok, Err, refl, sym, ◌∙◌, ap, subst, arith}
use Rattle.std.specs.Prelude.{if◌then◌else◌}
use Rattle.block_layouts.specs.declared.plan.FreezePlan.{FreezePlan}
use Rattle.page_layout.specs.Bytes.{u32_bytes}
use Rattle.page_masks.specs.Law.{Redone, and_then}
use Rattle.page_laws.specs.Change.{ItemChange}
use Rattle.page_laws.proofs.TupleChanges.{low_change, infomask2_change, infomask_change, both_changes}
use Rattle.redo_steps.specs.Bits.{has_bit}
use Rattle.redo_steps.specs.Tuple.{with_xmax, with_field3, with_infomask, with_infomask2}
use Rattle.heap_tuples.specs.Heap.{on_tuple}
use Rattle.heap_tuples.proofs.OperationLaws.{xmax_change, same_change}
use Rattle.heap_pages.specs.Freeze.{frozen_xvac, with_xvac, frozen_tuple, freeze_places, freeze_page}
use Rattle.heap_laws.specs.Edits.{TupleEdit, AreEdits, tuples_edited}
use Rattle.heap_laws.proofs.Edited.{edits_step}
use Rattle.heap_laws.proofs.Steps.{IsStep}

module _ (b n : ℕ) where
  field3_change : (x : ℕ) → ItemChange b n (with_field3 x)
  field3_change x = low_change b n 8 (u32_bytes x) (omega arith)

  frozen_change : (flags : ℕ) → ItemChange b n (frozen_xvac flags)
  frozen_change flags = by_case (has_bit 2 flags)
    where
      by_case : (c : Bool) → ItemChange b n (λ t. if c then with_field3 2 t else t)
      by_case true = field3_change 2
      by_case false = same_change b n

  xvac_change : (flags : ℕ) → ItemChange b n (with_xvac flags)
  xvac_change flags = by_case (has_bit 4 flags)
    where
      by_case : (c : Bool) → ItemChange b n (λ t. if c then with_field3 0 (frozen_xvac flags t) else frozen_xvac flags t)
      by_case true = both_changes b n (frozen_xvac flags) (with_field3 0) (frozen_change flags) (field3_change 0)
      by_case false = frozen_change flags

  plan_change : (plan : FreezePlan) → ItemChange b n (frozen_tuple plan)
  plan_change plan =
      let c1 = both_changes b n (with_xmax plan.xmax) (with_xvac plan.flags) (xmax_change b n plan.xmax) (xvac_change plan.flags) in
      let c2 = both_changes b n (λ t. with_xvac plan.flags (with_xmax plan.xmax t)) (with_infomask (λ _. plan.infomask)) c1 (infomask_change b n (λ _. plan.infomask) (λ v w same. refl)) in
      both_changes b n (λ t. with_infomask (λ _. plan.infomask) (with_xvac plan.flags (with_xmax plan.xmax t))) (with_infomask2 (λ _. plan.infomask2)) c2 (infomask2_change b n (λ _. plan.infomask2))

-- the plans as edits, each of one tuple
abbrev edits_of : FreezePlan → List ℕ → List TupleEdit
edits_of plan [] = []
edits_of plan (place ∷ places) = record { place = place; change = frozen_tuple plan } ∷ edits_of plan places

abbrev all_edits : List FreezePlan → List TupleEdit
all_edits [] = []
all_edits (plan ∷ plans) = edits_of plan plan.places ++ all_edits plans

then_same : (a : Redone) (f g : List ℕ → Redone) → ((p : List ℕ) → f p ≡ g p) → and_then a f ≡ and_then a g
then_same (Ok p) f g h = h p
then_same (Err why) f g h = refl

then_edited : (a : Redone) (xs ys : List TupleEdit) → ((p : List ℕ) → and_then (tuples_edited xs p) (tuples_edited ys) ≡ tuples_edited (xs ++ ys) p) → and_then (and_then a (tuples_edited xs)) (tuples_edited ys) ≡ and_then a (tuples_edited (xs ++ ys))
then_edited (Ok p) xs ys h = h p
then_edited (Err why) xs ys h = refl

edited_both : (xs ys : List TupleEdit) (p : List ℕ) → and_then (tuples_edited xs p) (tuples_edited ys) ≡ tuples_edited (xs ++ ys) p
edited_both [] ys p = refl
edited_both (x ∷ xs) ys p = then_edited (on_tuple x.place x.change p) xs ys (edited_both xs ys)

places_are : (plan : FreezePlan) (places : List ℕ) (p : List ℕ) → freeze_places plan places p ≡ tuples_edited (edits_of plan places) p
places_are plan [] p = refl
places_are plan (place ∷ places) p = then_same (on_tuple place (frozen_tuple plan) p) (freeze_places plan places) (tuples_edited (edits_of plan places)) (places_are plan places)

freeze_is : (plans : List FreezePlan) (p : List ℕ) → freeze_page plans p ≡ tuples_edited (all_edits plans) p
freeze_is [] p = refl
freeze_is (plan ∷ plans) p = ap (λ a. and_then a (freeze_page plans)) (places_are plan plan.places p)
    ∙ then_same (tuples_edited (edits_of plan plan.places) p) (freeze_page plans) (tuples_edited (all_edits plans)) (freeze_is plans) ∙ edited_both (edits_of plan plan.places) (all_edits plans) p

module _ (b : ℕ) where
  plan_edits : (plan : FreezePlan) (places : List ℕ) (more : List TupleEdit) → AreEdits b more → AreEdits b (edits_of plan places ++ more)
  plan_edits plan [] more are = are
  plan_edits plan (place ∷ places) more are = (plan_change b (place - 1 + 1) plan, plan_edits plan places more are)

  are_edits : (plans : List FreezePlan) → AreEdits b (all_edits plans)
  are_edits [] = tt
  are_edits (plan ∷ plans) = plan_edits plan plan.places (all_edits plans) (are_edits plans)

  pub freeze_step : (plans : List FreezePlan) → IsStep b (freeze_page plans)
  freeze_step plans = subst (IsStep b) (λ t p. sym (freeze_is plans p) t) (edits_step b (all_edits plans) (are_edits plans))
