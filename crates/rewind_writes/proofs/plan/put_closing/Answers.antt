use Rattle.std.proofs.Common.{[], ◌∷◌}
use Rattle.cluster_tree.specs.Change.{MakesFile, Writes}
use Rattle.marked_runs.proofs.CarriedLemmas.{performs-front, performs-then}
use Rattle.rewind_writes.proofs.plan.put_closing.Goals as goal

pub returns-in-Ok-clause-performs : goal.returns-in-Ok-clause-performs
returns-in-Ok-clause-performs g c = performs-then g.F.Tree (MakesFile c.args.label.path ∷ Writes c.args.label.path 0 c.args.label.bytes.items ∷ []) (Writes c.args.control.path 0 c.args.control.bytes.items ∷ []) _ _ _ _ _ c.in-Ok.ensures.performs c.put_over.ensures.performs

pub returns-in-Err-clause-performs : goal.returns-in-Err-clause-performs
returns-in-Err-clause-performs g c = performs-front g.F.Tree (MakesFile c.args.label.path ∷ Writes c.args.label.path 0 c.args.label.bytes.items ∷ []) (Writes c.args.control.path 0 c.args.control.bytes.items ∷ []) _ _ c.in-Err.fault c.in-Err.ensures.performs
