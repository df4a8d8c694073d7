-- The items of a row by their index.
use Rattle.std.proofs.Common.{◌≡◌, ℕ, zero, suc, ◌+◌, ◌*◌, ◌<◌, ◌≤◌, List, length, Some, None, refl, ap, ◌∙◌, arith}
use Rattle.std.specs.Prelude.{slice_get, sum_by}
use Rattle.std.proofs.lemmas.List.Sums.{sum_by-cons}
use Rattle.layout.specs.Readers.{u16_at}
use Rattle.block_layouts.specs.declared.plan.FreezePlan.{FreezePlan}
use Rattle.block_layouts.specs.Row.{row_of, end_of}
use Rattle.block_layouts.specs.Places.{place_at, place_behind, places_from}
use Rattle.block_layouts.specs.Redirects.{redirect_at, redirect_behind, redirects_from}
use Rattle.block_layouts.specs.Dedup.{interval_at, interval_behind, intervals_from}
use Rattle.block_layouts.specs.Freeze.{PlanPlace, place_count, plan_at, plan_behind, plans_from, first_plan}
use Rattle.block_layouts.proofs.RowLemmas.{length-row_of}

pub slice_get-row_of : {P X : Type 0} (item_at : List ℕ → P → X) (behind : List ℕ → P → P) (n i : ℕ) (bytes : List ℕ) (at : P) → i < n
    → slice_get (row_of item_at behind n bytes at) i ≡ Some (item_at bytes (end_of behind i bytes at))
slice_get-row_of item_at behind zero i bytes at lt = absurd (omega arith)
slice_get-row_of item_at behind (suc n) zero bytes at lt = refl
slice_get-row_of item_at behind (suc n) (suc i) bytes at lt = slice_get-row_of item_at behind n i bytes (behind bytes at) (omega arith)

pub slice_get-past : {P X : Type 0} (item_at : List ℕ → P → X) (behind : List ℕ → P → P) (n i : ℕ) (bytes : List ℕ) (at : P) → n ≤ i → slice_get (row_of item_at behind n bytes at) i ≡ None
slice_get-past item_at behind zero i bytes at le = refl
slice_get-past item_at behind (suc n) zero bytes at le = absurd (omega arith)
slice_get-past item_at behind (suc n) (suc i) bytes at le = slice_get-past item_at behind n i bytes (behind bytes at) (omega arith)

pub place_past : (count at index : ℕ) (bytes : List ℕ) → count ≤ index → slice_get (places_from count bytes at) index ≡ None
place_past count at index bytes le = slice_get-past place_at place_behind count index bytes at le

pub redirect_past : (count at index : ℕ) (bytes : List ℕ) → count ≤ index → slice_get (redirects_from count bytes at) index ≡ None
redirect_past count at index bytes le = slice_get-past redirect_at redirect_behind count index bytes at le

pub interval_past : (count at index : ℕ) (bytes : List ℕ) → count ≤ index → slice_get (intervals_from count bytes at) index ≡ None
interval_past count at index bytes le = slice_get-past interval_at interval_behind count index bytes at le

-- items of one size
end_of-even : (size n : ℕ) (bytes : List ℕ) (at : ℕ) → end_of (λ (b : List ℕ) (k : ℕ). k + size) n bytes at ≡ at + size * n
end_of-even size zero bytes at = omega arith
end_of-even size (suc n) bytes at = end_of-even size n bytes (at + size) ∙ grind arith

pub place_at-index : (count at index : ℕ) (bytes : List ℕ) → index < count → slice_get (places_from count bytes at) index ≡ Some (u16_at (at + 2 * index) bytes)
place_at-index count at index bytes lt =
    slice_get-row_of place_at place_behind count index bytes at lt ∙ ap (λ (k : ℕ). Some (u16_at k bytes)) (end_of-even 2 index bytes at)

pub redirect_at-index : (count at index : ℕ) (bytes : List ℕ) → index < count → slice_get (redirects_from count bytes at) index ≡ Some (redirect_at bytes (at + 4 * index))
redirect_at-index count at index bytes lt =
    slice_get-row_of redirect_at redirect_behind count index bytes at lt ∙ ap (λ (k : ℕ). Some (redirect_at bytes k)) (end_of-even 4 index bytes at)

pub interval_at-index : (count at index : ℕ) (bytes : List ℕ) → index < count → slice_get (intervals_from count bytes at) index ≡ Some (interval_at bytes (at + 4 * index))
interval_at-index count at index bytes lt =
    slice_get-row_of interval_at interval_behind count index bytes at lt ∙ ap (λ (k : ℕ). Some (interval_at bytes k)) (end_of-even 4 index bytes at)

pub place_count-is : (count at : ℕ) (bytes : List ℕ) → length (places_from count bytes at) ≡ count
place_count-is count at bytes = length-row_of place_at place_behind count bytes at

pub redirect_count-is : (count at : ℕ) (bytes : List ℕ) → length (redirects_from count bytes at) ≡ count
redirect_count-is count at bytes = length-row_of redirect_at redirect_behind count bytes at

pub interval_count-is : (count at : ℕ) (bytes : List ℕ) → length (intervals_from count bytes at) ≡ count
interval_count-is count at bytes = length-row_of interval_at interval_behind count bytes at

-- how many places plans have
abbrev pub all_places : List FreezePlan → ℕ
all_places plans = sum_by (λ plan. length plan.places) plans

abbrev plan_of : ℕ → ℕ → PlanPlace
plan_of plan places = record { plan = plan; places = places }

-- where the plan behind so many plans stands
end_of-plans : (n : ℕ) (bytes : List ℕ) (at : PlanPlace) → end_of plan_behind n bytes at ≡ record { plan = at.plan + 12 * n; places = at.places + 2 * all_places (plans_from n bytes at) }
end_of-plans zero bytes at =
    let plan : at.plan ≡ at.plan + 12 * 0 = omega arith in
    let places : at.places ≡ at.places + 2 * 0 = omega arith in
    ap (λ (k : ℕ). plan_of k at.places) plan ∙ ap (λ (k : ℕ). plan_of (at.plan + 12 * 0) k) places
end_of-plans (suc n) bytes at =
    let next = plan_behind bytes at in
    let rest = end_of-plans n bytes next in
    let count : length (places_from (place_count bytes at.plan) bytes at.places) ≡ place_count bytes at.plan = place_count-is (place_count bytes at.plan) at.places bytes in
    let sum : ℕ = all_places (plans_from n bytes next) in
    let plan : next.plan + 12 * n ≡ at.plan + 12 * suc n = omega arith in
    let all : all_places (plans_from (suc n) bytes at) ≡ length (places_from (place_count bytes at.plan) bytes at.places) + sum = sum_by-cons (λ (p : FreezePlan). length p.places) (plan_at bytes at) (plans_from n bytes next) in
    let places : next.places + 2 * sum ≡ at.places + 2 * all_places (plans_from (suc n) bytes at) = omega (arith, count, all) in
    rest ∙ ap (λ (k : ℕ). plan_of k (next.places + 2 * sum)) plan ∙ ap (λ (k : ℕ). plan_of (at.plan + 12 * suc n) k) places

pub plan_at-index : (count index : ℕ) (bytes : List ℕ) → index < count
    → slice_get (plans_from count bytes (first_plan count)) index ≡ Some (plan_at bytes (record { plan = 12 * index; places = 12 * count + 2 * all_places (plans_from index bytes (first_plan count)) }))
plan_at-index count index bytes lt =
    let plan : 0 + 12 * index ≡ 12 * index = omega arith in
    slice_get-row_of plan_at plan_behind count index bytes (first_plan count) lt
    ∙ ap (λ (p : PlanPlace). Some (plan_at bytes p)) (end_of-plans index bytes (first_plan count) ∙ ap (λ (k : ℕ). plan_of k (12 * count + 2 * all_places (plans_from index bytes (first_plan count)))) plan)

pub plan_count-is : (count : ℕ) (bytes : List ℕ) → length (plans_from count bytes (first_plan count)) ≡ count
plan_count-is count bytes = length-row_of plan_at plan_behind count bytes (first_plan count)
