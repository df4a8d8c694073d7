use Rattle.std.proofs.Common.{[], ◌∷◌, ap, Err}
use Rattle.cluster_tree.specs.Change.{Removes}
use Rattle.marked_runs.proofs.CarriedLemmas.{performs-broken, performs-done}
use Rattle.replay_core.proofs.closing.drop_label.Goals as goal

pub returns-in-Ok-clause-performs : goal.returns-in-Ok-clause-performs
returns-in-Ok-clause-performs g c = performs-done g.F.Tree (Removes c.args.path ∷ []) _ _ _ c.in-Ok.ensures.carries

pub returns-in-Err-clause-performs : goal.returns-in-Err-clause-performs
returns-in-Err-clause-performs g c = performs-broken g.F.Tree (Removes c.args.path ∷ []) _ _ c.in-Err.fault c.args.path _ (ap Err c.about.ensures) c.in-Err.ensures.carries
