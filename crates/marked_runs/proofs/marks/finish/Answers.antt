use Rattle.std.proofs.Common.{[], ◌∷◌}
use Rattle.cluster_tree.specs.Change.{Removes, Syncs}
use Rattle.marked_runs.proofs.CarriedLemmas.{carried-front, carried-then}
use Rattle.marked_runs.proofs.MarkLemmas.{finish-broken, finish-left, finish-synced, synced-first}
use Rattle.marked_runs.proofs.marks.finish.Goals as goal

pub returns-in-Ok-clause-carries : goal.returns-in-Ok-clause-carries
returns-in-Ok-clause-carries g c = carried-then g.F.Tree (Syncs ∷ []) (Removes c.args.mark.now ∷ Syncs ∷ []) _ _ _ _ _ c.in-Ok.ensures.carries c.unmark.ensures.carries

pub returns-in-Err-clause-carries : goal.returns-in-Err-clause-carries
returns-in-Err-clause-carries g c = carried-front g.F.Tree (Syncs ∷ []) (Removes c.args.mark.now ∷ Syncs ∷ []) _ _ _ c.in-Err.ensures.carries

pub returns-in-Ok-clause-any_moment : goal.returns-in-Ok-clause-any_moment
returns-in-Ok-clause-any_moment g c = λ told stands. finish-left g.F.Tree c.args.mark.now told _ _ _ _ stands c.in-Ok.ensures.took c.in-Ok.ensures.frame c.unmark.ensures.frame (c.unmark.ensures.any_moment told (synced-first g.F.Tree c.args.mark.now told _ _ _ c.in-Ok.ensures.took))

pub returns-in-Ok-clause-synced : goal.returns-in-Ok-clause-synced
returns-in-Ok-clause-synced g c = λ told none. finish-synced g.F.Tree c.args.mark.now told _ _ _ _ _ none c.in-Ok.ensures.took (c.unmark.ensures.synced told)

pub returns-in-Err-clause-any_moment : goal.returns-in-Err-clause-any_moment
returns-in-Err-clause-any_moment g c = λ told stands. finish-broken g.F.Tree c.args.mark.now told _ _ c.in-Err.e stands c.in-Err.ensures.took
