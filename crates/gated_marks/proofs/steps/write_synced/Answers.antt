use Rattle.std.proofs.Common.{[], ◌∷◌}
use Rattle.cluster_tree.specs.Change.{Syncs, Writes}
use Rattle.marked_runs.proofs.CarriedLemmas.{carried-front, carried-then}
use Rattle.gated_marks.proofs.LaidLemmas.{torn-broken, torn-synced}
use Rattle.gated_marks.proofs.steps.write_synced.Goals as goal

pub returns-in-Ok-clause-carries : goal.returns-in-Ok-clause-carries
returns-in-Ok-clause-carries g c = carried-then g.F.Tree (Writes c.args.mark.now c.args.at c.args.bytes.now ∷ []) (Syncs ∷ []) _ _ _ _ _ c.in-Ok.ensures.carries c.sync.ensures.carries

pub returns-in-Err-clause-carries : goal.returns-in-Err-clause-carries
returns-in-Err-clause-carries g c = carried-front g.F.Tree (Writes c.args.mark.now c.args.at c.args.bytes.now ∷ []) (Syncs ∷ []) _ _ _ c.in-Err.ensures.carries

pub returns-in-Ok-clause-any_moment : goal.returns-in-Ok-clause-any_moment
returns-in-Ok-clause-any_moment g c = λ told none. torn-synced g.F.Tree told c.args.mark.now c.args.at c.args.bytes.now _ _ _ _ _ none c.in-Ok.ensures.frame c.in-Ok.ensures.carries c.sync.ensures.took

pub returns-in-Err-clause-any_moment : goal.returns-in-Err-clause-any_moment
returns-in-Err-clause-any_moment g c = λ told none. torn-broken g.F.Tree told c.args.mark.now c.args.at c.args.bytes.now _ _ _ none c.in-Err.ensures.frame c.in-Err.ensures.carries
