use Rattle.std.proofs.Common.{[], ◌∷◌, subst}
use Rattle.cluster_tree.specs.Change.{Writes}
use Rattle.marked_runs.specs.Carried.{Carries}
use Rattle.rewind_writes.proofs.CopyLemmas.{carried-read, look-broken, never-refused, read-into}
use Rattle.rewind_writes.proofs.copying.copy_piece.Goals as goal

pub returns-in-Ok-clause-carries : goal.returns-in-Ok-clause-carries
returns-in-Ok-clause-carries g c = λ bytes is told.
    carried-read g.F.Tree (Writes c.args.to.now c.args.at bytes ∷ []) _ _ _ _ c.in-Ok.ensures.frame
    (subst (λ b. Carries g.F.Tree (Writes c.args.to.now c.args.at b ∷ []) c.read_at.new.self c.overwrite.new.tree c.overwrite.result) (read-into _ _ _ is (c.in-Ok.ensures.answer told)) c.overwrite.ensures.carries) told

pub returns-in-Err-clause-carries : goal.returns-in-Err-clause-carries
returns-in-Err-clause-carries g c = λ bytes is. look-broken g.F.Tree (Writes c.args.to.now c.args.at bytes ∷ []) _ _ c.in-Err.fault _ c.of_look.ensures c.in-Err.ensures.frame (λ told none. never-refused _ bytes _ _ c.in-Err.fault is c.in-Err.is (c.read_at.ensures.answer told))
