-- The bytes of a FREEZE_PAGE: PostgreSQL 16, src/include/access/heapam_xlog.h, xl_heap_freeze_page and
-- xl_heap_freeze_plan, twelve bytes each; src/backend/access/heap/heapam.c, heap_xlog_freeze_page.
use Rattle.std.specs.Prelude.{ℕ, ◌≤◌, ◌+◌, ◌*◌, List, length, Option, Some, None, nat_lt, if◌then◌else◌}
use Rattle.layout.specs.Readers.{u8_at, u16_at, u32_at}
use Rattle.block_layouts.specs.declared.plan.FreezePlan.{FreezePlan}
use Rattle.block_layouts.specs.Row.{row_of, end_of}
use Rattle.block_layouts.specs.Places.{places_from}

-- where a plan stands, and where its places do
pub record PlanPlace : Type 0 where
  pub plan : ℕ
  pub places : ℕ

-- how many places a plan has
abbrev pub place_count : List ℕ → ℕ → ℕ
place_count bytes plan = u16_at (plan + 10) bytes

-- one plan with its places
abbrev pub plan_at : List ℕ → PlanPlace → FreezePlan
plan_at bytes at = record {
  xmax = u32_at at.plan bytes;
  infomask2 = u16_at (at.plan + 4) bytes;
  infomask = u16_at (at.plan + 6) bytes;
  flags = u8_at (at.plan + 8) bytes;
  places = places_from (place_count bytes at.plan) bytes at.places;
}

-- behind a plan, and behind its places
abbrev pub plan_behind : List ℕ → PlanPlace → PlanPlace
plan_behind bytes at = record { plan = at.plan + 12; places = at.places + 2 * place_count bytes at.plan }

-- of so many plans the first stands in front, and its places behind the last plan
abbrev pub first_plan : ℕ → PlanPlace
first_plan count = record { plan = 0; places = 12 * count }

-- so many plans, the first at a place, and where the places of the last end
abbrev pub plans_from : ℕ → List ℕ → PlanPlace → List FreezePlan
plans_from count bytes at = row_of plan_at plan_behind count bytes at

abbrev pub places_end : ℕ → List ℕ → PlanPlace → ℕ
places_end count bytes at = (end_of plan_behind count bytes at).places

-- so many plans and their places are there
pub record HasPlans (count : ℕ) (bytes : List ℕ) (at : PlanPlace) : Type 0 where
  pub plans : at.plan + 12 * count ≤ length bytes
  pub places : places_end count bytes at ≤ length bytes

-- all plans, and then the places of each in turn
unfoldable pub freeze_plans_of : ℕ → List ℕ → Option (List FreezePlan)
freeze_plans_of count bytes =
    if nat_lt (length bytes) (12 * count) then None
    else if nat_lt (length bytes) (places_end count bytes (first_plan count)) then None
    else Some (plans_from count bytes (first_plan count))
