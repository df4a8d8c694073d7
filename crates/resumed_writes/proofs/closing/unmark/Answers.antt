use Rattle.std.proofs.Common.{[], ◌∷◌}
use Rattle.cluster_tree.specs.Change.{Removes, Syncs}
use Rattle.resumed_writes.proofs.TriedLemmas.{tried-front, tried-then}
use Rattle.resumed_writes.proofs.closing.unmark.Goals as goal

pub returns-in-Ok-remove_mark-clause-tries : goal.returns-in-Ok-remove_mark-clause-tries
returns-in-Ok-remove_mark-clause-tries g c =
    tried-then g.F.Tree (Syncs ∷ []) (Removes c.args.mark ∷ Syncs ∷ []) _ _ _ _ _ c.in-Ok.ensures.tries
    (tried-then g.F.Tree (Removes c.args.mark ∷ []) (Syncs ∷ []) _ _ _ _ _ c.in-Ok-remove_mark.ensures.tries c.sync-in-Ok-remove_mark.ensures.tries)

pub returns-in-Err-remove_mark-clause-tries : goal.returns-in-Err-remove_mark-clause-tries
returns-in-Err-remove_mark-clause-tries g c =
    tried-then g.F.Tree (Syncs ∷ []) (Removes c.args.mark ∷ Syncs ∷ []) _ _ _ _ _ c.in-Ok.ensures.tries
    (tried-front g.F.Tree (Removes c.args.mark ∷ []) (Syncs ∷ []) _ _ c.in-Err-remove_mark.fault c.in-Err-remove_mark.ensures.tries)

pub returns-in-Err-clause-tries : goal.returns-in-Err-clause-tries
returns-in-Err-clause-tries g c = tried-front g.F.Tree (Syncs ∷ []) (Removes c.args.mark ∷ Syncs ∷ []) _ _ c.in-Err.fault c.in-Err.ensures.tries
