use Rattle.std.proofs.Common.{◌+◌, drop, ap, sym, ◌∙◌}
use Rattle.cluster_tree.specs.Contents.{entry_at}
use Rattle.cluster_tree.specs.PathValue.{below}
use Rattle.cluster_tree.proofs.RunLemmas.{reads_on}
use Rattle.cluster_compare.specs.declared.compared.Compared.TheVariants.{Differs}
use Rattle.cluster_compare.specs.Same.{differ_at, unlogged_in}
use Rattle.cluster_compare.proofs.PairLemmas.{drop-next, drop-none, told-later, verdict-end, verdict-here, verdict-later}
use Rattle.cluster_compare.proofs.clusters_compared.first_difference.Goals as goal

pub returns-in-Some-clause-value : goal.returns-in-Some-clause-value
returns-in-Some-clause-value g c told =
    let first = c.args.clusters.now.first.now in
    let second = c.args.clusters.now.second.now in
    let pair = c.pair-item.result in
    let next = drop-next c.args.pairs.now c.loop-pair.pair-index pair c.loop-pair-test.true c.pair-item.is in
    let meant = c.in_ok-block.ensures.value told
    ∙ ap (λ x. differ_at (unlogged_in x first x second) c.args.clusters.now.per_file pair.path (entry_at x (below first pair.path.parts)) (entry_at x (below second pair.path.parts))) c.loop-pair.invariant.reads.same in
    ap (λ p. Differs p c.in-Some.block) c.in_ok-copy.ensures
    ∙ sym (sym (c.loop-pair.invariant.far told)
    ∙ verdict-here (g.F.Tree.contents c.args.tree.now) c.args.clusters.now.per_file first second (drop c.loop-pair.pair-index c.args.pairs.now) pair (drop (c.loop-pair.pair-index + 1) c.args.pairs.now) next
    c.in-Some.block (sym c.in-Some.is ∙ meant))

pub loop-pair-preserved : goal.loop-pair-preserved
loop-pair-preserved g c =
    let first = c.args.clusters.now.first.now in
    let second = c.args.clusters.now.second.now in
    let pair = c.pair-item.result in
    let next = drop-next c.args.pairs.now c.loop-pair.pair-index pair c.loop-pair-test.true c.pair-item.is in
    record {
      reads = reads_on g.F.Tree c.args.tree.now c.loop-pair.tree c.difference.new.tree c.loop-pair.invariant.reads c.in_ok-block.ensures.reads;
      told = λ told.
          told-later (g.F.Tree.contents c.args.tree.now) c.args.clusters.now.per_file first second (drop c.loop-pair.pair-index c.args.pairs.now) pair (drop (c.loop-pair.pair-index + 1) c.args.pairs.now) next
          (c.loop-pair.invariant.told told);
      far = λ told.
          sym (verdict-later (g.F.Tree.contents c.args.tree.now) c.args.clusters.now.per_file first second (drop c.loop-pair.pair-index c.args.pairs.now) pair (drop (c.loop-pair.pair-index + 1) c.args.pairs.now) next
          (sym c.in_default.is ∙ (c.in_ok-block.ensures.value told
          ∙ ap (λ x. differ_at (unlogged_in x first x second) c.args.clusters.now.per_file pair.path (entry_at x (below first pair.path.parts)) (entry_at x (below second pair.path.parts))) c.loop-pair.invariant.reads.same)))
          ∙ c.loop-pair.invariant.far told;
    }

pub returns-clause-value : goal.returns-clause-value
returns-clause-value g c told =
    sym (sym (c.loop-pair.invariant.far told)
    ∙ verdict-end (g.F.Tree.contents c.args.tree.now) c.args.clusters.now.per_file c.args.clusters.now.first.now c.args.clusters.now.second.now (drop c.loop-pair.pair-index c.args.pairs.now)
    (drop-none c.args.pairs.now c.loop-pair.pair-index c.loop-pair-test.false))
