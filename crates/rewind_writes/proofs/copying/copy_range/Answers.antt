use Rattle.std.proofs.Common.{◌+◌, arith, rules, ap, ◌∙◌}
use Rattle.std.proofs.lemmas.List.{length-take-le}
use Rattle.cluster_tree.specs.Contents.{entry_at}
use Rattle.cluster_tree.specs.Tree.{file_of, range_of}
use Rattle.rewind_writes.proofs.CopyLemmas.{copied-all, copied-begun, copied-broken, copied-on}
use Rattle.rewind_writes.proofs.copying.copy_range.Goals as goal

pub loop-done-init : goal.loop-done-init
loop-done-init g c = record {
  within = omega arith;
  far = copied-begun g.F.Tree c.args.from.now c.args.to.now c.args.at c.args.size c.args.tree.now;
  came = search rules;
}

pub loop-done-preserved : goal.loop-done-preserved
loop-done-preserved g c = record {
  within = omega (arith, c.min-piece.ensures);
  far = copied-on g.F.Tree c.args.from.now c.args.to.now c.args.at c.args.size c.loop-done.done c.min-piece.result c.args.tree.now c.loop-done.tree c.copy_piece.new.tree _ _
      (omega (arith, c.min-piece.ensures, c.loop-done-test.true, c.loop-done.auto.buffer, c.requires.some)) (omega (arith, c.min-piece.ensures, c.loop-done-test.true)) c.loop-done.invariant.far
      (λ part is. c.in-Ok.ensures.carries part (ap (λ n. range_of (file_of (entry_at (g.F.Tree.contents c.loop-done.tree) c.args.from.now)) (c.args.at + c.loop-done.done) n) (length-take-le c.min-piece.result c.loop-done.buffer (omega (arith, c.min-piece.ensures))) ∙ is));
  came = search rules;
}

pub returns-in-Err-clause-carries : goal.returns-in-Err-clause-carries
returns-in-Err-clause-carries g c =
    copied-broken g.F.Tree c.args.from.now c.args.to.now c.args.at c.args.size c.loop-done.done c.min-piece.result c.args.tree.now c.loop-done.tree c.copy_piece.new.tree tt c.in-Err.e
    (omega (arith, c.min-piece.ensures, c.loop-done-test.true, c.loop-done.auto.buffer, c.requires.some)) (omega (arith, c.min-piece.ensures, c.loop-done-test.true)) c.loop-done.invariant.far
    (λ part is. c.in-Err.ensures.carries part (ap (λ n. range_of (file_of (entry_at (g.F.Tree.contents c.loop-done.tree) c.args.from.now)) (c.args.at + c.loop-done.done) n) (length-take-le c.min-piece.result c.loop-done.buffer (omega (arith, c.min-piece.ensures))) ∙ is))

pub returns-clause-carries : goal.returns-clause-carries
returns-clause-carries g c = copied-all g.F.Tree c.args.from.now c.args.to.now c.args.at c.args.size c.loop-done.done c.args.tree.now c.loop-done.tree tt c.loop-done-test.false c.loop-done.invariant.far
