use Rattle.std.proofs.Common.{[], ◌∷◌, length}
use Rattle.cluster_tree.specs.Change.{Cuts, Syncs, Writes}
use Rattle.marked_runs.proofs.CarriedLemmas.{both_unrefused, carried-front, carried-then}
use Rattle.gated_marks.proofs.HeadLemmas.{over-stands, over-synced, over-unrefused}
use Rattle.gated_marks.proofs.head.lay_over.Goals as goal

pub returns-in-Ok-clause-carries : goal.returns-in-Ok-clause-carries
returns-in-Ok-clause-carries g c = carried-then g.F.Tree (Cuts c.args.mark.now 0 ∷ Syncs ∷ []) (Writes c.args.mark.now 0 c.args.head.now ∷ Syncs ∷ []) _ _ _ _ _ c.in-Ok.ensures.carries c.write_synced.ensures.carries

pub returns-in-Err-clause-carries : goal.returns-in-Err-clause-carries
returns-in-Err-clause-carries g c = carried-front g.F.Tree (Cuts c.args.mark.now 0 ∷ Syncs ∷ []) (Writes c.args.mark.now 0 c.args.head.now ∷ Syncs ∷ []) _ _ _ c.in-Err.ensures.carries

pub returns-in-Ok-clause-any_moment : goal.returns-in-Ok-clause-any_moment
returns-in-Ok-clause-any_moment g c = λ told on none.
    let first = (both_unrefused (g.F.Tree.contents c.args.tree.now) (Cuts c.args.mark.now 0 ∷ Syncs ∷ []) (Writes c.args.mark.now 0 c.args.head.now ∷ Syncs ∷ []) none).0 in
    let synced = c.in-Ok.ensures.synced told first in
    over-synced g.F.Tree told c.args.mark.now c.args.head.now _ _ _ synced c.in-Ok.ensures.frame c.write_synced.ensures.frame (c.in-Ok.ensures.any_moment told on (length c.args.head.now) first)
    (c.write_synced.ensures.any_moment told (over-unrefused g.F.Tree told c.args.mark.now c.args.head.now _ _ c.write_synced.new.tree synced))

pub returns-in-Ok-clause-synced : goal.returns-in-Ok-clause-synced
returns-in-Ok-clause-synced g c = λ told none.
    let first = (both_unrefused (g.F.Tree.contents c.args.tree.now) (Cuts c.args.mark.now 0 ∷ Syncs ∷ []) (Writes c.args.mark.now 0 c.args.head.now ∷ Syncs ∷ []) none).0 in
    let synced = c.in-Ok.ensures.synced told first in
    over-stands g.F.Tree told c.args.mark.now c.args.head.now _ _ _ synced _ (c.write_synced.ensures.synced told (over-unrefused g.F.Tree told c.args.mark.now c.args.head.now _ _ c.write_synced.new.tree synced))
