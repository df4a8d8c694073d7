use Rattle.std.proofs.Common.{[], ◌∷◌, Err, Ok, arith, subst}
use Rattle.cluster_tree.specs.Change.{MakesFile, Writes}
use Rattle.marked_runs.specs.Carried.{Carries}
use Rattle.pair_maker.proofs.PutLemmas.{file-broken, file-made}
use Rattle.pair_maker.proofs.putting.put_bytes.Goals as goal

pub returns-in-Ok-clause-carries : goal.returns-in-Ok-clause-carries
returns-in-Ok-clause-carries g c =
    file-made g.F.Tree c.args.path.now c.args.bytes.now c.min-size.result _ _ _ tt _ (omega (arith, c.min-size.ensures))
    (subst (λ x. Carries g.F.Tree (MakesFile c.args.path.now ∷ Writes c.args.path.now 0 x ∷ []) c.args.tree.now c.write_new.new.tree (Ok tt)) c.first.ensures c.in-Ok.ensures.carries) c.write_rest.ensures.carries

pub returns-in-Err-clause-carries : goal.returns-in-Err-clause-carries
returns-in-Err-clause-carries g c =
    file-broken g.F.Tree c.args.path.now c.args.bytes.now c.min-size.result _ _ c.in-Err.e
    (subst (λ x. Carries g.F.Tree (MakesFile c.args.path.now ∷ Writes c.args.path.now 0 x ∷ []) c.args.tree.now c.write_new.new.tree (Err c.in-Err.e)) c.first.ensures c.in-Err.ensures.carries)
