use Rattle.std.proofs.Common.{rules}
use Rattle.reset_cleanup.proofs.PerformLemmas.{goes-all, goes-broken, goes-on}
use Rattle.reset_cleanup.proofs.performing.remove_all.Goals as goal

pub loop-path-preserved : goal.loop-path-preserved
loop-path-preserved g c = record {
  goes = goes-on g.F.Tree c.args.gone.items c.loop-path.gone.items c.pop_front.new.self.items c.in-Some.path c.args.tree.now c.loop-path.tree c.remove_one.new.tree _ c.in-Some.ensures.items c.loop-path.invariant.goes c.in-Ok.ensures.performs;
  came = search rules;
}

pub returns-in-Err-clause-performs : goal.returns-in-Err-clause-performs
returns-in-Err-clause-performs g c =
    goes-broken g.F.Tree c.args.gone.items c.loop-path.gone.items c.pop_front.new.self.items c.in-Some.path c.args.tree.now c.loop-path.tree c.remove_one.new.tree c.in-Err.fault c.in-Some.ensures.items c.loop-path.invariant.goes c.in-Err.ensures.performs

pub returns-clause-performs : goal.returns-clause-performs
returns-clause-performs g c = goes-all g.F.Tree c.args.gone.items c.loop-path.gone.items c.args.tree.now c.loop-path.tree (search rules) c.loop-path.invariant.goes
