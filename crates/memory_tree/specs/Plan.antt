-- Which calls of a fake a plan lets fail, by their number from 1. Own: "Fakes in memory".
use Rattle.std.specs.Prelude.{ℕ, Bool, false, ◌==◌, nat_le}
use Rattle.memory_tree.specs.declared.plan.FailPlan.{FailPlan}
use Rattle.memory_tree.specs.declared.plan.FailPlan.TheVariants as plan

-- whether the call of this number is to fail
abbrev pub fails_at : FailPlan → ℕ → Bool
fails_at plan.Never n = false
fails_at (plan.At k) n = n == k
fails_at (plan.From k) n = nat_le k n
