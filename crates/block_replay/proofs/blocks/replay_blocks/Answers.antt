use Rattle.std.proofs.Common.{drop, sym, ◌∙◌, arith}
use Rattle.rmgr_hooks.specs.Custom.{handed_in}
use Rattle.std.proofs.lemmas.Result.{err_from_is_err_and}
use Rattle.file_edits.proofs.OwnLemmas.{came-on, own-on}
use Rattle.block_replay.specs.Blocks.{each_after}
use Rattle.block_replay.proofs.BlockLemmas.{each-end, each-more, each-refused, handed}
use Rattle.storage_replay.specs.Sparing.{piece_of}
use Rattle.file_edits.proofs.SparingLemmas.{spared-on}
use Rattle.block_replay.proofs.SparingLemmas.{among-place}
use Rattle.block_replay.proofs.blocks.replay_blocks.Goals as goal

pub returns-in_err-replay_at-clause-exact : goal.returns-in_err-replay_at-clause-exact
returns-in_err-replay_at-clause-exact g c told =
    handed (each_after (handed_in g.M.Manager c.args.custom) c.args.at.now.root c.args.at.now.per_file c.args.rec.now c.args.parts.now (drop c.loop-index.index c.args.parts.now.blocks) (record { files = g.F.Tree.contents c.loop-index.tree; skipped = c.loop-index.skipped })) _ _
    c.from_residual.result _ (c.loop-index.invariant.meant told) (err_from_is_err_and c.from_residual.result c.from_residual.ensures.1)
    (each-refused _ c.args.at.now.root c.args.at.now.per_file c.args.rec.now c.args.parts.now c.args.parts.now.blocks c.loop-index.index
    (record { files = g.F.Tree.contents c.loop-index.tree; skipped = c.loop-index.skipped }) _ (c.in_err-replay_at.ensures.exact told))

pub loop-index-preserved : goal.loop-index-preserved
loop-index-preserved g c = record {
  frame = came-on g.F.Tree _ _ _ c.loop-index.invariant.frame c.replay_at.ensures.frame;
  own = λ told. own-on g.F.Tree.calls _ _ _ _ (c.loop-index.invariant.own told) (c.replay_at.ensures.own told);
  spares = λ told name is free. spared-on g.F.Tree (piece_of c.args.at.now.root c.args.at.now.per_file name) _ _ _ (c.loop-index.invariant.spares told name is free) (c.replay_at.ensures.spares told name is (among-place _ c.args.rec.now c.args.parts.now name c.args.parts.now.blocks c.loop-index.index free));
  meant = λ told.
      sym (each-more _ c.args.at.now.root c.args.at.now.per_file c.args.rec.now c.args.parts.now c.args.parts.now.blocks c.loop-index.index
      (record { files = g.F.Tree.contents c.loop-index.tree; skipped = c.loop-index.skipped }) (record { files = g.F.Tree.contents c.replay_at.new.tree; skipped = c.replay_at.new.skipped })
      (c.in_ok-replay_at.ensures.exact told))
      ∙ c.loop-index.invariant.meant told;
}

pub returns-clause-exact : goal.returns-clause-exact
returns-clause-exact g c told =
    sym (c.loop-index.invariant.meant told)
    ∙ each-end _ c.args.at.now.root c.args.at.now.per_file c.args.rec.now c.args.parts.now c.args.parts.now.blocks c.loop-index.index
    (record { files = g.F.Tree.contents c.loop-index.tree; skipped = c.loop-index.skipped }) (omega arith)

pub returns-in_err-replay_at-clause-spares : goal.returns-in_err-replay_at-clause-spares
returns-in_err-replay_at-clause-spares g c told name is free = spared-on g.F.Tree (piece_of c.args.at.now.root c.args.at.now.per_file name) _ _ _ (c.loop-index.invariant.spares told name is free) (c.replay_at.ensures.spares told name is (among-place _ c.args.rec.now c.args.parts.now name c.args.parts.now.blocks c.loop-index.index free))
