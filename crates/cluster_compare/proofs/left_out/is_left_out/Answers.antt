use Rattle.cluster_tree.specs.Contents.{entry_at}
use Rattle.cluster_tree.specs.PathValue.{below}
use Rattle.cluster_compare.specs.Same.{unlogged_in}
use Rattle.cluster_compare.proofs.KindLemmas.{first-kept, second-kept}
use Rattle.cluster_compare.proofs.left_out.is_left_out.Goals as goal
use Rattle.cluster_compare.proofs.left_out.is_left_out.Goals.{then-not-is_plain-via-then-not-is_plain, then-not-is_plain-via-else-not-is_plain+then-not-is_plain-2}

pub returns-then-not-is_plain-clause-value : goal.returns-then-not-is_plain-clause-value
returns-then-not-is_plain-clause-value g c told =
    let pair = c.requires.told told in
    let contents = g.F.Tree.contents c.args.tree.now in
    let unlogged = unlogged_in contents c.args.clusters.now.first.now contents c.args.clusters.now.second.now in
    let here = entry_at contents (below c.args.clusters.now.first.now c.args.pair.now.path.parts) in
    let there = entry_at contents (below c.args.clusters.now.second.now c.args.pair.now.path.parts) in
    elim c.then-not-is_plain.branch [
      | then-not-is_plain-via-then-not-is_plain w ↦
          first-kept unlogged c.args.pair.now.path here there c.is_plain.result (c.is_plain.ensures here pair.0.told pair.0.known) w.if-not-is_plain.true
      | then-not-is_plain-via-else-not-is_plain+then-not-is_plain-2 w ↦
          second-kept unlogged c.args.pair.now.path here there w.is_plain-else-not-is_plain.result (w.is_plain-else-not-is_plain.ensures there pair.1.told pair.1.known) w.if-not-is_plain-2.true
    ]
