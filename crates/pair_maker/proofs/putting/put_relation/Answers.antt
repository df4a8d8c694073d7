use Rattle.std.proofs.Common.{◌<◌, None, arith, length}
use Rattle.std.proofs.lemmas.Bool.Decides.{nat_tests}
use Rattle.pair_maker.proofs.PutLemmas.{relation-broken, relation-made}
use Rattle.pair_maker.proofs.putting.put_relation.Goals as goal

pub returns-in-Ok-clause-carries : goal.returns-in-Ok-clause-carries
returns-in-Ok-clause-carries g c =
    let some : 0 < length c.args.ends.now = grind (arith, nat_tests) in
    relation-made g.F.Tree c.args.path.now c.args.seed c.args.ends.now None _ _ _ _ _ some c.in-Ok.ensures.size c.in-Ok.ensures.carries c.write_blocks.ensures.carries

pub returns-in-Err-clause-carries : goal.returns-in-Err-clause-carries
returns-in-Err-clause-carries g c =
    let some : 0 < length c.args.ends.now = grind (arith, nat_tests) in
    relation-broken g.F.Tree c.args.path.now c.args.seed c.args.ends.now None _ _ _ some c.in-Err.ensures.carries
