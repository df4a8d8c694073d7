use Rattle.std.proofs.Common.{[], ◌∷◌}
use Rattle.cluster_tree.specs.Change.{Cuts, Syncs}
use Rattle.marked_runs.proofs.CarriedLemmas.{carried-front, carried-then}
use Rattle.gated_marks.proofs.HeadLemmas.{cut-broken, cut-stands, cut-synced}
use Rattle.gated_marks.proofs.head.empty_mark.Goals as goal

pub returns-in-Ok-clause-carries : goal.returns-in-Ok-clause-carries
returns-in-Ok-clause-carries g c = carried-then g.F.Tree (Cuts c.args.mark.now 0 ∷ []) (Syncs ∷ []) _ _ _ _ _ c.in-Ok.ensures.carries c.sync.ensures.carries

pub returns-in-Err-clause-carries : goal.returns-in-Err-clause-carries
returns-in-Err-clause-carries g c = carried-front g.F.Tree (Cuts c.args.mark.now 0 ∷ []) (Syncs ∷ []) _ _ _ c.in-Err.ensures.carries

pub returns-in-Ok-clause-any_moment : goal.returns-in-Ok-clause-any_moment
returns-in-Ok-clause-any_moment g c = λ told on size none. cut-synced g.F.Tree told c.args.mark.now _ _ none c.in-Ok.ensures.frame size _ _ _ on c.in-Ok.ensures.carries c.sync.ensures.took

pub returns-in-Ok-clause-synced : goal.returns-in-Ok-clause-synced
returns-in-Ok-clause-synced g c = λ told none. cut-stands g.F.Tree told c.args.mark.now _ _ none c.in-Ok.ensures.frame _ _ _ c.in-Ok.ensures.carries c.sync.ensures.took

pub returns-in-Err-clause-any_moment : goal.returns-in-Err-clause-any_moment
returns-in-Err-clause-any_moment g c = λ told on size none. cut-broken g.F.Tree told c.args.mark.now _ _ none c.in-Err.ensures.frame size _ on c.in-Err.ensures.carries
