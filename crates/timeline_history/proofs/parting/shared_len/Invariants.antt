use Rattle.std.proofs.Common.{◌≡◌, ℕ, ◌<◌, true}
use Rattle.timeline_history.specs.Ancestor.{agrees_at}
use Rattle.timeline_history.proofs.parting.shared_len.Given as goal

abbrev pub invariant-loop-at : goal.invariant-loop-at
invariant-loop-at l = (k : ℕ) → k < l.at → agrees_at l.a l.b k ≡ true
