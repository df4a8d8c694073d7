use Rattle.std.proofs.Common.{◌≡◌, [], map, rules, ap}
use Rattle.pair_maker.specs.Entries.{standing_of}
use Rattle.pair_maker.proofs.PutLemmas.{goes-all, goes-broken, goes-on}
use Rattle.pair_maker.proofs.putting.put_all.Goals as goal

pub loop-placed-preserved : goal.loop-placed-preserved
loop-placed-preserved g c = record {
  goes = goes-on g.F.Tree (map standing_of c.args.entries.items) (map standing_of c.loop-placed.entries.items) (map standing_of c.pop_front.new.self.items) (standing_of c.in-Some.placed) c.args.tree.now c.loop-placed.tree c.put_placed.new.tree _ (ap (map standing_of) c.in-Some.ensures.items) c.loop-placed.invariant.goes c.in-Ok.ensures.performs;
  came = search rules;
}

pub returns-in-Err-clause-performs : goal.returns-in-Err-clause-performs
returns-in-Err-clause-performs g c =
    goes-broken g.F.Tree (map standing_of c.args.entries.items) (map standing_of c.loop-placed.entries.items) (map standing_of c.pop_front.new.self.items) (standing_of c.in-Some.placed) c.args.tree.now c.loop-placed.tree c.put_placed.new.tree c.in-Err.fault (ap (map standing_of) c.in-Some.ensures.items) c.loop-placed.invariant.goes c.in-Err.ensures.performs

pub returns-clause-performs : goal.returns-clause-performs
returns-clause-performs g c =
    let none : c.loop-placed.entries.items ≡ [] = search rules in
    goes-all g.F.Tree (map standing_of c.args.entries.items) (map standing_of c.loop-placed.entries.items) c.args.tree.now c.loop-placed.tree (ap (map standing_of) none) c.loop-placed.invariant.goes
