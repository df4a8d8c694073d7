use Rattle.std.proofs.Common.{◌≡◌, ◌+◌, ◌-◌, ◌*◌, ◌≤◌, ℕ, List}
use Rattle.block_layouts.specs.Freeze.{places_end, first_plan}
use Rattle.block_layouts.proofs.freeze.places_end.Given as goal

-- the plans before were counted
pub record Counted (count i places : ℕ) (bytes : List ℕ) : Type 0 where
  pub same : places_end (count - i) bytes (record { plan = 12 * i; places = places }) ≡ places_end count bytes (first_plan count)
  pub most : places ≤ 12 * count + 131070 * i

abbrev pub invariant-loop-i : goal.invariant-loop-i
invariant-loop-i l = Counted l.count l.i l.places l.bytes
