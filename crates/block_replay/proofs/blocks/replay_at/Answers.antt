use Rattle.std.specs.List.{slice_get}
use Rattle.block_replay.proofs.BlockLemmas.{at-none, at-some, known-at}
use Rattle.block_replay.proofs.SparingLemmas.{at-place}
use Rattle.block_replay.proofs.blocks.replay_at.Goals as goal

pub replay_block-requires-clause-block : goal.replay_block-requires-clause-block
replay_block-requires-clause-block g c = known-at c.args.redo.now.parts.now.blocks c.args.index c.in-Some.block c.requires.known c.in-Some.ensures.value

pub returns-in-Some-clause-exact : goal.returns-in-Some-clause-exact
returns-in-Some-clause-exact g c told =
    at-some _ c.args.at.now.root c.args.at.now.per_file c.args.redo.now.rec.now c.args.redo.now.parts.now (slice_get c.args.redo.now.parts.now.blocks c.args.index) c.in-Some.block
    (record { files = g.F.Tree.contents c.args.tree.now; skipped = c.args.skipped.now }) (record { files = g.F.Tree.contents c.replay_block.new.tree; skipped = c.replay_block.new.skipped })
    c.replay_block.result c.in-Some.ensures.value (c.replay_block.ensures.exact told)

pub returns-in-None-clause-exact : goal.returns-in-None-clause-exact
returns-in-None-clause-exact g c told =
    at-none _ c.args.at.now.root c.args.at.now.per_file c.args.redo.now.rec.now c.args.redo.now.parts.now (slice_get c.args.redo.now.parts.now.blocks c.args.index)
    (record { files = g.F.Tree.contents c.args.tree.now; skipped = c.args.skipped.now }) c.in-None.ensures.value

pub returns-in-Some-clause-spares : goal.returns-in-Some-clause-spares
returns-in-Some-clause-spares g c told name is free = c.replay_block.ensures.spares told name is (at-place _ c.args.redo.now.rec.now c.args.redo.now.parts.now name (slice_get c.args.redo.now.parts.now.blocks c.args.index) c.in-Some.block c.in-Some.ensures.value free)
