use Rattle.std.proofs.Common.{arith}
use Rattle.block_layouts.specs.Freeze.{first_plan, places_end}
use Rattle.block_layouts.proofs.FreezeLemmas.{places_end-step}
use Rattle.block_layouts.proofs.freeze.places_end.Goals as goal

pub loop-i-preserved : goal.loop-i-preserved
loop-i-preserved c =
    let bytes = c.args.bytes.now in
    let before = c.loop-i.invariant in
    record {
      same = places_end-step c.args.count c.loop-i.i bytes c.loop-i.places c.place_count.result (places_end c.args.count bytes (first_plan c.args.count)) c.loop-i-test.true c.place_count.ensures.value before.same;
      most = omega (arith, before.most, c.place_count.ensures.most);
    }
