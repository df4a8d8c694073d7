use Rattle.std.proofs.Common.{[], ◌∷◌}
use Rattle.cluster_tree.specs.Change.{MakesFile, Syncs, Writes}
use Rattle.marked_runs.proofs.CarriedLemmas.{carried-front, carried-then}
use Rattle.gated_marks.proofs.HeadLemmas.{new-broken, new-stands, new-synced}
use Rattle.gated_marks.proofs.head.lay_new.Goals as goal

pub returns-in-Ok-clause-carries : goal.returns-in-Ok-clause-carries
returns-in-Ok-clause-carries g c = carried-then g.F.Tree (MakesFile c.args.mark.now ∷ Writes c.args.mark.now 0 c.args.head.now ∷ []) (Syncs ∷ []) _ _ _ _ _ c.in-Ok.ensures.carries c.sync.ensures.carries

pub returns-in-Err-clause-carries : goal.returns-in-Err-clause-carries
returns-in-Err-clause-carries g c = carried-front g.F.Tree (MakesFile c.args.mark.now ∷ Writes c.args.mark.now 0 c.args.head.now ∷ []) (Syncs ∷ []) _ _ _ c.in-Err.ensures.carries

pub returns-in-Ok-clause-any_moment : goal.returns-in-Ok-clause-any_moment
returns-in-Ok-clause-any_moment g c = λ told off none. new-synced g.F.Tree told c.args.mark.now c.args.head.now _ _ none c.in-Ok.ensures.frame _ _ _ off c.in-Ok.ensures.carries c.sync.ensures.took

pub returns-in-Ok-clause-synced : goal.returns-in-Ok-clause-synced
returns-in-Ok-clause-synced g c = λ told none. new-stands g.F.Tree told c.args.mark.now c.args.head.now _ _ none c.in-Ok.ensures.frame _ _ _ c.in-Ok.ensures.carries c.sync.ensures.took

pub returns-in-Err-clause-any_moment : goal.returns-in-Err-clause-any_moment
returns-in-Err-clause-any_moment g c = λ told off none. new-broken g.F.Tree told c.args.mark.now c.args.head.now _ _ none c.in-Err.ensures.frame _ off c.in-Err.ensures.carries
