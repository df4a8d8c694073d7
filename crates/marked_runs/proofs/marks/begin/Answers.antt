use Rattle.std.proofs.Common.{[], ◌∷◌}
use Rattle.cluster_tree.specs.Change.{MakesFile, Syncs, Writes}
use Rattle.marked_runs.proofs.CarriedLemmas.{carried-front, carried-then}
use Rattle.marked_runs.proofs.MarkLemmas.{begin-broken, begin-left, begin-marked}
use Rattle.marked_runs.proofs.marks.begin.Goals as goal

pub returns-in-Ok-clause-carries : goal.returns-in-Ok-clause-carries
returns-in-Ok-clause-carries g c = carried-then g.F.Tree (MakesFile c.args.mark.now ∷ Writes c.args.mark.now 0 c.args.text.now ∷ []) (Syncs ∷ []) _ _ _ _ _ c.in-Ok.ensures.carries c.sync.ensures.carries

pub returns-in-Err-clause-carries : goal.returns-in-Err-clause-carries
returns-in-Err-clause-carries g c = carried-front g.F.Tree (MakesFile c.args.mark.now ∷ Writes c.args.mark.now 0 c.args.text.now ∷ []) (Syncs ∷ []) _ _ _ c.in-Err.ensures.carries

pub returns-in-Ok-clause-any_moment : goal.returns-in-Ok-clause-any_moment
returns-in-Ok-clause-any_moment g c = λ told none. begin-left g.F.Tree c.args.mark.now told c.args.text.now _ _ none c.in-Ok.ensures.frame _ _ _ c.in-Ok.ensures.carries c.sync.ensures.took

pub returns-in-Ok-clause-marked : goal.returns-in-Ok-clause-marked
returns-in-Ok-clause-marked g c = λ told none. begin-marked g.F.Tree c.args.mark.now told c.args.text.now _ _ none c.in-Ok.ensures.frame _ _ _ c.in-Ok.ensures.carries c.sync.ensures.took

pub returns-in-Err-clause-any_moment : goal.returns-in-Err-clause-any_moment
returns-in-Err-clause-any_moment g c = λ told none. begin-broken g.F.Tree c.args.mark.now told c.args.text.now _ _ none c.in-Err.ensures.frame _ c.in-Err.ensures.carries
