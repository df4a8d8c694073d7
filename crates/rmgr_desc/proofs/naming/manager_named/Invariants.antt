use Rattle.std.proofs.Common.{◌≡◌, ℕ, ◌<◌, false}
use Rattle.rmgr_desc.specs.Naming.{names_manager}
use Rattle.rmgr_desc.proofs.naming.manager_named.Given as goal

abbrev pub invariant-loop-manager : goal.invariant-loop-manager
invariant-loop-manager l = (k : ℕ) → k < l.manager → names_manager l.name k ≡ false
