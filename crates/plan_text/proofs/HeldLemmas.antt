-- What a program holds of a plan.
use Rattle.std.proofs.Common.{List, [], ◌∷◌, ◌++◌}
use Rattle.rewind_writes.specs.declared.step.Step.{Step}
use Rattle.plan_text.specs.Laws.{AllAreSized, IsSized}

-- one step more
pub sized-more : (steps : List Step) (step : Step) → AllAreSized steps → IsSized step → AllAreSized (steps ++ step ∷ [])
sized-more [] step all one = (one, tt)
sized-more (first ∷ steps) step all one = (all.0, sized-more steps step all.1 one)
