use Rattle.std.proofs.Common.{[], ◌∷◌, ap, Err}
use Rattle.marked_runs.proofs.CarriedLemmas.{performs-broken}
use Rattle.rewind_writes.specs.Steps.{opened}
use Rattle.rewind_writes.proofs.StepLemmas.{whole-broken, whole-taken}
use Rattle.rewind_writes.proofs.stepping.copy_whole.Goals as goal

pub returns-in-Ok-clause-takes : goal.returns-in-Ok-clause-takes
returns-in-Ok-clause-takes g c = λ d. whole-taken g.F.Tree d c.args.from.now c.args.to c.args.size _ _ _ _ _ (c.in-Ok.ensures.carries d) (c.copy_one.ensures.takes d)

pub returns-in-Err-clause-takes : goal.returns-in-Err-clause-takes
returns-in-Err-clause-takes g c = λ d. whole-broken g.F.Tree d c.args.from.now c.args.to c.args.size _ _ _
    (performs-broken g.F.Tree (opened d c.args.to ∷ []) _ _ c.in-Err.fault c.args.to _ (ap Err c.about.ensures) (c.in-Err.ensures.carries d))
