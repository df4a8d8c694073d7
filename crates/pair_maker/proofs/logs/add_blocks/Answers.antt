use Rattle.std.proofs.Common.{ap₂, arith, ◌∙◌, ◌∷◌, [], ◌++◌, sym, zero-add}
use Rattle.std.proofs.lemmas.List.FromFn.{map-range_with_len_more}
use Rattle.pair_maker.specs.Logs.{block_end}
use Rattle.pair_maker.proofs.logs.add_blocks.Goals as goal

pub loop-block-preserved : goal.loop-block-preserved
loop-block-preserved c = record {
  log = c.in_ok-end.ensures.log;
  ends = c.in_ok-push.ensures.items ∙ ap₂ (λ l e. l ++ e ∷ []) c.loop-block.invariant.ends c.in_ok-end.ensures.end
      ∙ sym (map-range_with_len_more (block_end c.args.side c.args.seed) 0 c.loop-block.block c.loop-block.block (zero-add c.loop-block.block));
  low = omega (arith, c.in_ok-end.ensures.near, c.loop-block.invariant.low);
}
