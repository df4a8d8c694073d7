-- Plans and their places, one plan at a time.
use Rattle.std.proofs.Common.{◌≡◌, ℕ, zero, suc, ◌+◌, ◌-◌, ◌*◌, ◌<◌, ◌≤◌, List, length, sym, ap, ◌∙◌, arith}
use Rattle.block_layouts.specs.Freeze.{PlanPlace, HasPlans, place_count, plan_behind, places_end}
use Rattle.block_layouts.proofs.RowLemmas.{end_of-next}

-- the places of plans end behind their beginning
pub places_end-grows : (n : ℕ) (bytes : List ℕ) (at : PlanPlace) → at.places ≤ places_end n bytes at
places_end-grows zero bytes at = omega arith
places_end-grows (suc n) bytes at = omega (arith, places_end-grows n bytes (plan_behind bytes at))

pub places_end-next : (n : ℕ) (bytes : List ℕ) (at : PlanPlace) → 0 < n → places_end n bytes at ≡ places_end (n - 1) bytes (plan_behind bytes at)
places_end-next n bytes at lt = ap (λ (p : PlanPlace). p.places) (end_of-next plan_behind n bytes at lt)

-- where plans are there, the first is with its places, and those behind it are
pub record HasFirst (n : ℕ) (bytes : List ℕ) (at : PlanPlace) : Type 0 where
  pub plan : at.plan + 12 ≤ length bytes
  pub places : at.places + 2 * place_count bytes at.plan ≤ length bytes
  pub others : HasPlans (n - 1) bytes (plan_behind bytes at)

pub HasPlans-next : (n : ℕ) (bytes : List ℕ) (at : PlanPlace) → 0 < n → HasPlans n bytes at → HasFirst n bytes at
HasPlans-next n bytes at lt has =
    let next = places_end-next n bytes at lt in
    let end : places_end (n - 1) bytes (plan_behind bytes at) ≤ length bytes = omega (arith, next, has.places) in
    record {
      plan = omega (arith, has.plans);
      places = omega (arith, end, places_end-grows (n - 1) bytes (plan_behind bytes at));
      others = record { plans = omega (arith, has.plans); places = end };
    }

-- the loop over the plans
pub places_end-step : (n i : ℕ) (bytes : List ℕ) (places count end : ℕ) → i < n → count ≡ place_count bytes (12 * i)
    → places_end (n - i) bytes (record { plan = 12 * i; places = places }) ≡ end
    → places_end (n - (i + 1)) bytes (record { plan = 12 * (i + 1); places = places + 2 * count }) ≡ end
places_end-step n i bytes places count end lt is same =
    let less : n - (i + 1) ≡ n - i - 1 = omega arith in
    let plan : 12 * (i + 1) ≡ 12 * i + 12 = omega arith in
    rw (less, plan, is) (sym (places_end-next (n - i) bytes (record { plan = 12 * i; places = places }) (omega arith)) ∙ same)
