use Rattle.std.proofs.Common.{◌≡◌, ◌++◌, ◌-◌, ◌≤◌, length, drop, map}
use Rattle.plan_text.specs.Reading.{steps_in}
use Rattle.plan_text.proofs.turns.steps_in.Given as goal

abbrev pub invariant-loop-steps : goal.invariant-loop-steps
invariant-loop-steps l = record {
  within : length l.steps.items ≤ length l.pieces;
  steps : steps_in l.roots.target.now l.roots.source.now 0 (map (λ piece. piece.now) l.pieces)
      ≡ l.steps.items ++ steps_in l.roots.target.now l.roots.source.now l.least (drop (length l.steps.items) (map (λ piece. piece.now) l.pieces));
}

abbrev pub decreases-loop-steps : goal.decreases-loop-steps
decreases-loop-steps l = length l.pieces - length l.steps.items
