use Rattle.std.proofs.Common.{length, take, ap, sym, ◌∙◌, arith, rules}
use Rattle.std.proofs.lemmas.List.{length-take-le}
use Rattle.std.specs.Prelude.{bytes_eq}
use Rattle.cluster_tree.specs.Tree.{bytes_at}
use Rattle.cluster_tree.proofs.RunLemmas.{reads_on}
use Rattle.cluster_compare.specs.Looks.{part_of}
use Rattle.cluster_compare.proofs.ByteLemmas.{all-same, piece-other, piece-same}
use Rattle.cluster_compare.proofs.bytes.same_bytes.Goals as goal

pub returns-then-not-same-clause-value : goal.returns-then-not-same-clause-value
returns-then-not-same-clause-value g c told =
    let n = length (take c.min-piece.result c.loop-done.here) in
    let m = length (take c.min-piece.result c.loop-done.there) in
    piece-other (bytes_at (g.F.Tree.contents c.args.tree.now) c.args.files.now.first.path) (bytes_at (g.F.Tree.contents c.args.tree.now) c.args.files.now.second.path) c.loop-done.done n m c.in_ok-same.same
    (c.in_ok-same.ensures.value told
    ∙ ap (λ x. bytes_eq (part_of c.loop-done.done n (bytes_at x c.args.files.now.first.path)) (part_of c.loop-done.done m (bytes_at x c.args.files.now.second.path))) c.loop-done.invariant.reads.same)
    (length-take-le c.min-piece.result c.loop-done.here (search rules) ∙ sym (length-take-le c.min-piece.result c.loop-done.there (search rules)))
    c.if-not-same.true

pub loop-done-preserved : goal.loop-done-preserved
loop-done-preserved g c = record {
  within = omega (arith, c.min-piece.ensures);
  reads = reads_on g.F.Tree c.args.tree.now c.loop-done.tree c.same_piece.new.tree c.loop-done.invariant.reads c.in_ok-same.ensures.reads;
  same = λ told.
      let n = length (take c.min-piece.result c.loop-done.here) in
      let m = length (take c.min-piece.result c.loop-done.there) in
      piece-same (bytes_at (g.F.Tree.contents c.args.tree.now) c.args.files.now.first.path) (bytes_at (g.F.Tree.contents c.args.tree.now) c.args.files.now.second.path) c.loop-done.done n m c.in_ok-same.same
      (c.in_ok-same.ensures.value told
      ∙ ap (λ x. bytes_eq (part_of c.loop-done.done n (bytes_at x c.args.files.now.first.path)) (part_of c.loop-done.done m (bytes_at x c.args.files.now.second.path))) c.loop-done.invariant.reads.same)
      c.min-piece.result (length-take-le c.min-piece.result c.loop-done.here (search rules)) (length-take-le c.min-piece.result c.loop-done.there (search rules))
      c.if-not-same.false (c.loop-done.invariant.same told);
}

pub returns-clause-value : goal.returns-clause-value
returns-clause-value g c told =
    all-same (bytes_at (g.F.Tree.contents c.args.tree.now) c.args.files.now.first.path) (bytes_at (g.F.Tree.contents c.args.tree.now) c.args.files.now.second.path) c.loop-done.done
    (omega (arith, (c.requires.there told).0.1, c.loop-done-test.false))
    (omega (arith, (c.requires.there told).1.1, c.loop-done-test.false, c.if-size-files.false))
    (c.loop-done.invariant.same told)
