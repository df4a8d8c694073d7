use Rattle.std.proofs.Common.{◌+◌, ◌*◌, None, arith, drop, get_or, rules}
use Rattle.pair_maker.specs.Blocks.{block_page}
use Rattle.pair_maker.specs.Entries.{pages_from}
use Rattle.pair_maker.proofs.PutLemmas.{pages-cons, pages-none, reaches-all, reaches-broken, reaches-on}
use Rattle.pair_maker.proofs.putting.write_blocks.Goals as goal

pub loop-block-preserved : goal.loop-block-preserved
loop-block-preserved g c =
    let block = c.loop-block.block in
    let ends = c.args.ends.now in
    record {
      reaches = reaches-on g.F.Tree c.args.path.now 8192 (8192 * block) (8192 * (block + 1)) (pages_from c.args.seed 1 (drop 1 ends)) (pages_from c.args.seed block (drop block ends)) (block_page c.args.seed block (get_or ends block None)) (pages_from c.args.seed (block + 1) (drop (block + 1) ends)) c.args.tree.now c.loop-block.tree c.write_block.new.tree _
          (pages-cons c.args.seed block ends None c.loop-block-test.true) (omega (arith, c.in-Ok.ensures.size)) (omega (arith, c.in-Ok.ensures.size)) c.loop-block.invariant.reaches c.in-Ok.ensures.carries;
      came = search rules;
    }

pub returns-in-Err-clause-carries : goal.returns-in-Err-clause-carries
returns-in-Err-clause-carries g c =
    let block = c.loop-block.block in
    let ends = c.args.ends.now in
    reaches-broken g.F.Tree c.args.path.now 8192 (8192 * block) (pages_from c.args.seed 1 (drop 1 ends)) (pages_from c.args.seed block (drop block ends)) (block_page c.args.seed block (get_or ends block None)) (pages_from c.args.seed (block + 1) (drop (block + 1) ends)) c.args.tree.now c.loop-block.tree c.write_block.new.tree c.in-Err.e
    (pages-cons c.args.seed block ends None c.loop-block-test.true) (omega (arith, c.in-Err.ensures.size)) c.loop-block.invariant.reaches c.in-Err.ensures.carries

pub returns-clause-carries : goal.returns-clause-carries
returns-clause-carries g c =
    reaches-all g.F.Tree c.args.path.now 8192 (8192 * c.loop-block.block) (pages_from c.args.seed 1 (drop 1 c.args.ends.now)) (pages_from c.args.seed c.loop-block.block (drop c.loop-block.block c.args.ends.now)) c.args.tree.now c.loop-block.tree
    (pages-none c.args.seed c.loop-block.block c.args.ends.now (omega (arith, c.loop-block-test.false))) c.loop-block.invariant.reaches
