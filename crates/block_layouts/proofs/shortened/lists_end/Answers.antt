use Rattle.std.proofs.Common.{◌∙◌, arith}
use Rattle.block_layouts.specs.Shortened.{lists_end}
use Rattle.block_layouts.proofs.ShortenedLemmas.{lists_end-step, lists_end-stop}
use Rattle.block_layouts.proofs.shortened.lists_end.Goals as goal

pub returns-then-bytes-end : goal.returns-then-bytes-end
returns-then-bytes-end c =
    let bytes = c.args.bytes.now in
    record { value = lists_end-stop c.args.count c.loop-i._i bytes c.loop-i.end (lists_end c.args.count bytes c.args.first) c.loop-i-test.true c.if-bytes-end.true c.loop-i.invariant.same }

pub loop-i-preserved : goal.loop-i-preserved
loop-i-preserved c =
    let bytes = c.args.bytes.now in
    let many = c.from.ensures ∙ c.u16_at.ensures in
    record {
      most = omega (arith, c.if-bytes-end.false, c.from.ensures);
      same = lists_end-step c.args.count c.loop-i._i bytes c.loop-i.end c.from.result (lists_end c.args.count bytes c.args.first) c.loop-i-test.true many c.loop-i.invariant.same;
    }
