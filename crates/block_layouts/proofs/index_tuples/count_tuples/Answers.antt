use Rattle.std.proofs.Common.{suc, length, ◌∙◌, arith}
use Rattle.block_layouts.specs.IndexTuples.{count_below}
use Rattle.block_layouts.proofs.IndexLemmas.{count_below-init, count_below-step, count_below-stop, count_below-end}
use Rattle.block_layouts.proofs.index_tuples.count_tuples.Goals as goal

pub loop-at-init : goal.loop-at-init
loop-at-init c = record {
  few = omega arith;
  within = omega arith;
  same = count_below-init (suc (length c.args.bytes.now)) c.args.bytes.now;
}

pub returns-in_err-at : goal.returns-in_err-at
returns-in_err-at c =
    let bytes = c.args.bytes.now in
    let before = c.loop-at.invariant in
    let stop = count_below-stop (suc (length bytes)) c.loop-at.count bytes c.loop-at.at (count_below (suc (length bytes)) bytes 0) (omega (arith, before.few, before.within)) c.loop-at-test.true c.in_err-at.ensures.value before.same in
    record { value = c.from_residual.ensures ∙ stop }

pub loop-at-preserved : goal.loop-at-preserved
loop-at-preserved c =
    let bytes = c.args.bytes.now in
    let before = c.loop-at.invariant in
    let told = c.in_ok-at.ensures in
    record {
      few = omega (arith, before.few, told.rises);
      within = told.within;
      same = count_below-step (suc (length bytes)) c.loop-at.count bytes c.loop-at.at c.in_ok-at.at (count_below (suc (length bytes)) bytes 0) (omega (arith, before.few, before.within)) c.loop-at-test.true told.value before.same;
    }

pub returns : goal.returns
returns c =
    let bytes = c.args.bytes.now in
    let before = c.loop-at.invariant in
    record {
      value = count_below-end (suc (length bytes)) c.loop-at.count bytes c.loop-at.at (count_below (suc (length bytes)) bytes 0) (omega (arith, before.few, before.within)) (omega (arith, before.within, c.loop-at-test.false)) before.same;
    }
