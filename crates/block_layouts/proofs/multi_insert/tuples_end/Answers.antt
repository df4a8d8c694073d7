use Rattle.block_layouts.specs.MultiInsert.{tuple_behind, tuple_stands, tuples_end}
use Rattle.block_layouts.proofs.RowLemmas.{whole_end-step}
use Rattle.block_layouts.proofs.multi_insert.tuples_end.Goals as goal

pub loop-i-preserved : goal.loop-i-preserved
loop-i-preserved c =
    let bytes = c.args.bytes.now in
    let before = c.loop-i.invariant in
    let told = c.in_ok-at.ensures in
    record {
      within = told.within;
      same = whole_end-step tuple_stands tuple_behind c.args.count c.loop-i._i bytes c.loop-i.at c.in_ok-at.at (tuples_end c.args.count bytes 0) c.loop-i-test.true told.value before.same;
    }
