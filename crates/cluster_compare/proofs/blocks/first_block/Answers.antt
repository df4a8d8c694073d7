use Rattle.std.proofs.Common.{◌*◌, ◌/◌, ◌<◌, ◌≤◌, length, Some, ap, sym, subst, ◌∙◌, arith, rules}
use Rattle.cluster_tree.specs.Tree.{bytes_at}
use Rattle.cluster_tree.proofs.RunLemmas.{reads_on}
use Rattle.cluster_compare.specs.Looks.{part_of}
use Rattle.cluster_compare.proofs.BlockLemmas.{compared-block, first-here, first-later, first-none, is-same, not-same, read-block}
use Rattle.cluster_compare.proofs.blocks.first_block.Goals as goal

pub returns-then-not-is_same_block-clause-value : goal.returns-then-not-is_same_block-clause-value
returns-then-not-is_same_block-clause-value g c told =
    let a = bytes_at (g.F.Tree.contents c.args.tree.now) c.args.files.now.first.path in
    let b = bytes_at (g.F.Tree.contents c.args.tree.now) c.args.files.now.second.path in
    let one = read-block c.read_both.new.here a (c.loop-block.block * 8192) (length c.loop-block.here) c.loop-block.block (search rules) (omega arith)
    (c.in_ok-read_both.ensures.first told ∙ ap (λ x. part_of (c.loop-block.block * 8192) (length c.loop-block.here) (bytes_at x c.args.files.now.first.path)) c.loop-block.invariant.reads.same) in
    let other = read-block c.read_both.new.there b (c.loop-block.block * 8192) (length c.loop-block.there) c.loop-block.block (search rules) (omega arith)
    (c.in_ok-read_both.ensures.second told ∙ ap (λ x. part_of (c.loop-block.block * 8192) (length c.loop-block.there) (bytes_at x c.args.files.now.second.path)) c.loop-block.invariant.reads.same) in
    let compared = compared-block c.args.segment.per_file c.args.segment.number c.loop-block.block c.fork_block-number.result c.read_both.new.here c.read_both.new.there a b c.is_same_block.result one other c.fork_block-number.ensures c.is_same_block.ensures in
    ap (λ n. Some n) c.fork_block-number.ensures
    ∙ sym (c.loop-block.invariant.far told
    ∙ first-here _ (length a / 8192) c.loop-block.block _ (subst (λ s. c.loop-block.block < s / 8192) (sym (c.requires.there told).0.1) c.loop-block-test.true)
    (not-same c.args.segment.per_file c.args.segment.number a b c.loop-block.block (sym c.if-not-is_same_block.true ∙ compared)))

pub loop-block-preserved : goal.loop-block-preserved
loop-block-preserved g c = record {
  reads = reads_on g.F.Tree c.args.tree.now c.loop-block.tree c.read_both.new.tree c.loop-block.invariant.reads c.in_ok-read_both.ensures.reads;
  far = λ told.
      let a = bytes_at (g.F.Tree.contents c.args.tree.now) c.args.files.now.first.path in
      let b = bytes_at (g.F.Tree.contents c.args.tree.now) c.args.files.now.second.path in
      let one = read-block c.read_both.new.here a (c.loop-block.block * 8192) (length c.loop-block.here) c.loop-block.block (search rules) (omega arith)
      (c.in_ok-read_both.ensures.first told ∙ ap (λ x. part_of (c.loop-block.block * 8192) (length c.loop-block.here) (bytes_at x c.args.files.now.first.path)) c.loop-block.invariant.reads.same) in
      let other = read-block c.read_both.new.there b (c.loop-block.block * 8192) (length c.loop-block.there) c.loop-block.block (search rules) (omega arith)
      (c.in_ok-read_both.ensures.second told ∙ ap (λ x. part_of (c.loop-block.block * 8192) (length c.loop-block.there) (bytes_at x c.args.files.now.second.path)) c.loop-block.invariant.reads.same) in
      let compared = compared-block c.args.segment.per_file c.args.segment.number c.loop-block.block c.fork_block-number.result c.read_both.new.here c.read_both.new.there a b c.is_same_block.result one other c.fork_block-number.ensures c.is_same_block.ensures in
      c.loop-block.invariant.far told
      ∙ first-later _ (length a / 8192) c.loop-block.block (subst (λ s. c.loop-block.block < s / 8192) (sym (c.requires.there told).0.1) c.loop-block-test.true)
      (is-same c.args.segment.per_file c.args.segment.number a b c.loop-block.block (sym c.if-not-is_same_block.false ∙ compared));
}

pub returns-clause-value : goal.returns-clause-value
returns-clause-value g c told =
    let a = bytes_at (g.F.Tree.contents c.args.tree.now) c.args.files.now.first.path in
    sym (c.loop-block.invariant.far told ∙ first-none _ (length a / 8192) c.loop-block.block (subst (λ s. s / 8192 ≤ c.loop-block.block) (sym (c.requires.there told).0.1) c.loop-block-test.false))
