use Rattle.std.proofs.Common.{[], ◌∷◌, ◌++◌, ◌-◌, length, replicate, subst}
use Rattle.cluster_tree.specs.Change.{MakesFile, Writes}
use Rattle.marked_runs.specs.Carried.{Carries}
use Rattle.marked_runs.proofs.ZeroLemmas.{padded-carried, padded-front}
use Rattle.pair_maker.proofs.putting.put_log.Goals as goal

pub returns-in-Ok-clause-carries : goal.returns-in-Ok-clause-carries
returns-in-Ok-clause-carries g c =
    subst (λ n. Carries g.F.Tree (MakesFile c.args.path.now ∷ Writes c.args.path.now 0 (c.args.log.now ++ replicate n 0) ∷ []) c.args.tree.now c.fill_zeros.new.tree c.fill_zeros.result) c.zeros_behind.ensures
    (padded-carried g.F.Tree c.args.path.now c.args.log.now (replicate c.zeros_behind.result 0) _ _ _ tt _ c.in-Ok.ensures.carries c.fill_zeros.ensures.carries)

pub returns-in-Err-clause-carries : goal.returns-in-Err-clause-carries
returns-in-Err-clause-carries g c = padded-front g.F.Tree c.args.path.now c.args.log.now (replicate (0x10_0000 - length c.args.log.now) 0) _ _ _ c.in-Err.ensures.carries
