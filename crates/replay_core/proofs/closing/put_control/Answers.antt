use Rattle.std.proofs.Common.{[], ◌∷◌, ap, Err}
use Rattle.cluster_tree.specs.Change.{Writes}
use Rattle.marked_runs.proofs.CarriedLemmas.{performs-broken, performs-done}
use Rattle.replay_core.proofs.JoinLemmas.{performs-same}
use Rattle.replay_core.proofs.closing.put_control.Goals as goal

pub returns-in-Ok-clause-performs : goal.returns-in-Ok-clause-performs
returns-in-Ok-clause-performs g c =
    performs-same g.F.Tree _ _ _ _ _ (ap (λ b. Writes c.args.path 0 b ∷ []) c.control_bytes-bytes.ensures)
    (performs-done g.F.Tree (Writes c.args.path 0 c.control_bytes-bytes.result ∷ []) _ _ _ c.in-Ok.ensures.carries)

pub returns-in-Err-clause-performs : goal.returns-in-Err-clause-performs
returns-in-Err-clause-performs g c =
    performs-same g.F.Tree _ _ _ _ _ (ap (λ b. Writes c.args.path 0 b ∷ []) c.control_bytes-bytes.ensures)
    (performs-broken g.F.Tree (Writes c.args.path 0 c.control_bytes-bytes.result ∷ []) _ _ c.in-Err.fault c.args.path _ (ap Err c.about.ensures) c.in-Err.ensures.carries)
