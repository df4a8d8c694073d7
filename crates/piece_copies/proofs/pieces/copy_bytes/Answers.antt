use Rattle.std.proofs.Common.{◌≡◌, length, take, Ok, arith, rules, refl, ap, inl}
use Rattle.std.proofs.lemmas.List.{length-take-le}
use Rattle.std.proofs.lemmas.Result.{err_from_is_err_and}
use Rattle.file_edits.proofs.AnswerLemmas.{handed-on}
use Rattle.file_edits.proofs.OwnLemmas.{came-on}
use Rattle.piece_copies.proofs.AnswerLemmas.{why-free}
use Rattle.piece_copies.proofs.PieceLemmas.{far-all, far-begun, far-from, far-more, far-to}
use Rattle.piece_copies.proofs.pieces.copy_bytes.Goals as goal

pub loop-done-init : goal.loop-done-init
loop-done-init g c = record {
  within = omega arith;
  far = λ told. far-begun c.args.from.now c.args.to.now c.args.size (g.F.Tree.contents c.args.tree.now);
  came = search rules;
  own = λ told first on. on;
}

pub loop-done-preserved : goal.loop-done-preserved
loop-done-preserved g c =
    let fits = c.min-piece.ensures in
    let size : length (take c.min-piece.result c.loop-done.buffer) ≡ c.min-piece.result = length-take-le c.min-piece.result c.loop-done.buffer (omega (arith, c.min-piece.ensures)) in
    record {
      within = omega (arith, c.min-piece.ensures);
      far = λ told bytes is long other empty.
          let far = c.loop-done.invariant.far told in
          far-more c.args.from.now c.args.to.now c.args.size c.loop-done.done (g.F.Tree.contents c.args.tree.now) (g.F.Tree.contents c.loop-done.tree) far bytes is long other empty (g.F.Tree.contents c.copy_piece.new.tree) c.min-piece.result
          (rw size at (c.in_ok-copy_piece.ensures.exact told bytes
          (far-from c.args.from.now c.args.to.now c.args.size c.loop-done.done (g.F.Tree.contents c.args.tree.now) (g.F.Tree.contents c.loop-done.tree) far bytes is long other empty)
          (far-to c.args.from.now c.args.to.now c.args.size c.loop-done.done (g.F.Tree.contents c.args.tree.now) (g.F.Tree.contents c.loop-done.tree) far bytes is long other empty)
          (omega (arith, size, long, c.min-piece.ensures, c.loop-done-test.true))));
      came = came-on g.F.Tree _ _ _ c.loop-done.invariant.came c.copy_piece.ensures.frame;
      own = λ told first on. c.copy_piece.ensures.own told first (c.loop-done.invariant.own told first on);
    }

pub returns-in_err-copy_piece-clause-exact : goal.returns-in_err-copy_piece-clause-exact
returns-in_err-copy_piece-clause-exact g c = λ told bytes is long other empty.
    let size : length (take c.min-piece.result c.loop-done.buffer) ≡ c.min-piece.result = length-take-le c.min-piece.result c.loop-done.buffer (omega (arith, c.min-piece.ensures)) in
    let far = c.loop-done.invariant.far told in
    handed-on _ _ c.from_residual.result _ (err_from_is_err_and c.from_residual.result c.from_residual.ensures.1)
    (inl (why-free _ _ _ refl (c.in_err-copy_piece.ensures.exact told bytes
    (far-from c.args.from.now c.args.to.now c.args.size c.loop-done.done (g.F.Tree.contents c.args.tree.now) (g.F.Tree.contents c.loop-done.tree) far bytes is long other empty)
    (far-to c.args.from.now c.args.to.now c.args.size c.loop-done.done (g.F.Tree.contents c.args.tree.now) (g.F.Tree.contents c.loop-done.tree) far bytes is long other empty)
    (omega (arith, size, long, c.min-piece.ensures, c.loop-done-test.true)))))

pub returns-clause-exact : goal.returns-clause-exact
returns-clause-exact g c = λ told bytes is long other empty.
    ap (λ x. Ok x) (far-all c.args.from.now c.args.to.now c.args.size c.loop-done.done (g.F.Tree.contents c.args.tree.now) (g.F.Tree.contents c.loop-done.tree) (c.loop-done.invariant.far told) bytes is long other empty (omega (arith, c.loop-done-test.false)))

pub returns-in_err-copy_piece-clause-own : goal.returns-in_err-copy_piece-clause-own
returns-in_err-copy_piece-clause-own g c told first on = c.copy_piece.ensures.own told first (c.loop-done.invariant.own told first on)
